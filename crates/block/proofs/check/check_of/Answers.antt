use Rattle.std.proofs.Common.{◌≡◌, take, drop, refl, ap, ◌∙◌, arith}
use Rattle.std.proofs.lemmas.List.{at_drop_all, take_min}
use Rattle.byte_fields.specs.Unused.{zeros}
use Rattle.block.specs.Check.{weighed}
use Rattle.block.specs.Layout.{framed}
use Rattle.block.proofs.check.check_of.Goals as goal

pub returns : goal.returns
unfolding zeros framed
returns c =
    let bs = c.args.bytes.now in
    let i = c.loop-i.i in
    let none : weighed i (drop i (take c.min.result bs)) ≡ 0 = at_drop_all (weighed i) (take c.min.result bs) i (omega arith) in
    let all : weighed 0 (take c.min.result bs) ≡ weighed 0 (take 508 bs) = ap (λ n. weighed 0 (take n bs)) (omega arith) ∙ ap (weighed 0) (take_min 508 bs) in
    record { is = omega arith; example = refl }
