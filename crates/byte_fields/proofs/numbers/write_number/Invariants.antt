use Rattle.std.proofs.Common.{◌≡◌, ◌-◌, ◌≤◌, ◌++◌, length, take}
use Rattle.byte_fields.specs.Numbers.{digits}
use Rattle.byte_fields.proofs.numbers.write_number.Given as goal

abbrev pub invariant-loop-place : goal.invariant-loop-place
invariant-loop-place l =
    (l.place-index ≤ length l.initial.field)
    × (length l.field ≡ length l.initial.field)
    × (take l.place-index l.field ++ digits (length l.initial.field - l.place-index) l.rest ≡ digits (length l.initial.field) l.initial.rest)
