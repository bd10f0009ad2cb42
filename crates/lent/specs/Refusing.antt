-- What a refusal does (01, "Refusal numbers"): it comes before what would be done, and stores nothing. Assumes nothing.
use Rattle.std.specs.Prelude.{ℕ, zero, suc, Bool, true, false}

-- the next answer where the check passes, else the refusal
abbrev pub unless : {A : Type 0} → (passes : Bool) → (refused next : A) → A
unless true refused next = next
unless false refused next = refused

-- "A refusal stores nothing": the new content where the number is 0, which is accepted, else what was there
abbrev pub leaves : {X : Type 0} → (number : ℕ) → (new old : X) → X
leaves zero new old = new
leaves (suc n) new old = old
