use Rattle.std.proofs.Common.{◌≡◌, arith}
use Rattle.std.proofs.lemmas.Grind.{common_steps}
use Rattle.block.specs.Reading.{held, read_of}
use Rattle.block.proofs.Only.{made_only}
use Rattle.block.proofs.reading.read_block.Goals as goal

pub returns-clause-only : goal.returns-clause-only
returns-clause-only c =
    let bs = c.args.bytes.now in
    let is : held c.read_laid.result ≡ read_of bs = grind (arith, common_steps) in
    made_only bs (λ k. omega (arith, c.type_inv.bytes k)) c.read_laid.result is
