-- The letters of the kinds, and their bytes.
use Rattle.std.specs.Prelude.{◌≡◌, ℕ, cond, List, [], ◌∷◌, Some, None, Ok, Err, Option, Result, ◌==◌, ◌≢◌}
use Rattle.std.specs.Result.{result_ok}
use Rattle.station.specs.declared.letters.Letter.{Letter}
use Rattle.station.specs.declared.letters.NoLetter.{NoLetter}
use Rattle.station.specs.declared.letters.Letter.TheVariants.{F, T, B, S, C, P, Q}

abbrev pub letter_byte : Letter → ℕ
letter_byte F = 70
letter_byte T = 84
letter_byte B = 66
letter_byte S = 83
letter_byte C = 67
letter_byte P = 80
letter_byte Q = 81

-- the letter with the byte b, if it is this one
abbrev pub or_else : Letter → ℕ → Option Letter → Option Letter
or_else l b others = cond (b == letter_byte l) (Some l) others

abbrev pub letter_of : ℕ → Option Letter
letter_of b = or_else F b (or_else T b (or_else B b (or_else S b (or_else C b (or_else P b (or_else Q b None))))))

-- an answer is a letter with that byte, or none has it
abbrev pub LetterIs : ℕ → Option Letter → Type 0
LetterIs b (Some l) = letter_byte l ≡ b
LetterIs b None = (l : Letter) → letter_byte l ≢ b

-- a letter and the byte that is written for it, which reads as that letter alone
pub record LetterWritten (l : Letter) (b : ℕ) : Type 0 where
  pub is : b ≡ letter_byte l
  pub back : letter_of b ≡ Some l

abbrev pub letter_read : ℕ → Option Letter → Result Letter NoLetter
letter_read b (Some l) = Ok l
letter_read b None = Err (record { byte = b })

-- a byte and what it reads as
pub record LetterRead (b : ℕ) (r : Result Letter NoLetter) : Type 0 where
  pub is : r ≡ letter_read b (letter_of b)
  pub back : LetterIs b (result_ok r)

-- how a letter is printed
abbrev pub letter_text : Letter → List ℕ
letter_text l = letter_byte l ∷ []
