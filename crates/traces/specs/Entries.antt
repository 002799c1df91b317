-- The entries of a trace.
use Rattle.std.specs.Prelude.{Option}

-- an item, or none where it was withdrawn
abbrev pub Entry : Type 0 → Type 0
Entry I = Option I
