-- The public calls as their callers see them: one answer, and one content of every lent word, for all inputs. Assumes nothing.
use Rattle.std.specs.Prelude.{◌≡◌, ℕ, Bool, List, length}
use Rattle.std.proofs.Common.{◌∙◌, sym}
use Rattle.text.specs.Numbers.{line_of, is_well, words_of}

-- `line`: whether it is well formed, and the lent words at exit: its numbers, or zeros where it is malformed
pub record Taken (letter : ℕ) (line into : List ℕ) (r : Bool) (into' : List ℕ) : Type 0 where
  pub well : r ≡ is_well (line_of letter (length into) line)
  pub words : into' ≡ words_of (length into) (line_of letter (length into) line)

-- no second outcome fits
pub one_line : {letter : ℕ} {line into : List ℕ} {r₁ r₂ : Bool} {into₁ into₂ : List ℕ}
    → Taken letter line into r₁ into₁ → Taken letter line into r₂ into₂ → (r₁ ≡ r₂) × (into₁ ≡ into₂)
one_line a b = (a.well ∙ sym b.well, a.words ∙ sym b.words)
