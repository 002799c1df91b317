use Rattle.std.proofs.Common.{length, ap, ◌∙◌, arith}
use Rattle.std.proofs.lemmas.List.{length-set}
use Rattle.byte_fields.specs.Numbers.{numeral}
use Rattle.byte_fields.proofs.NumberLaws.{numeral_digits, write_turn, written_all}
use Rattle.byte_fields.proofs.numbers.write_number.Goals as goal

pub loop-place-preserved : goal.loop-place-preserved
loop-place-preserved c =
    let size = length c.args.field.now in (
      omega arith,
      length-set _ _ _ ∙ c.loop-place.invariant.1,
      write_turn c.loop-place.field c.loop-place.place-index size c.loop-place.rest c.args.number (omega arith) c.loop-place.invariant.1 c.loop-place.invariant.2,
    )

pub returns : goal.returns
returns c =
    let size = length c.args.field.now in
    let is = written_all c.loop-place.field c.loop-place.place-index size c.loop-place.rest c.args.number c.loop-place.invariant.1 (omega arith) c.loop-place.invariant.2 in
    record { is = is; back = λ lt. ap numeral is ∙ numeral_digits size c.args.number lt }
