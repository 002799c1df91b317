use Rattle.std.proofs.Common.{length, string_bytes, codes, arith}
use Rattle.station.specs.Letters.{letter_text}
use Rattle.passes.specs.Texts.{head_text}
use Rattle.passes.proofs.Lines.{lines_turn, lines_end}
use Rattle.passes.proofs.texts.pass_text.Goals as goal

pub loop-position-preserved : goal.loop-position-preserved
loop-position-preserved g c = (
  omega arith,
  λ text_of shown.
      let d = c.index-states-position.result in
      lines_turn text_of c.args.states.now c.loop-position.position d
      (string_bytes c.in_ok-text.text) (string_bytes c.loop-position.text) (string_bytes c.push_line.new.text)
      c.loop-position-test.true c.index-states-position.is (c.loop-position.invariant.1 text_of shown)
      (c.in_ok-push_line.ensures (text_of d) (shown d)),
)

pub returns : goal.returns
returns g c text_of shown =
    let ds = c.args.states.now in
    lines_end text_of ds c.loop-position.position (head_text (letter_text c.args.letter) (length ds)) (codes "END\n")
    (string_bytes c.in_ok-text.text) (string_bytes c.loop-position.text) (string_bytes c.push_str.new.self)
    c.loop-position-test.false c.in_ok-text.ensures (c.loop-position.invariant.1 text_of shown)
    c.in_ok-push_str.ensures.bytes
