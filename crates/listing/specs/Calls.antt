-- The public calls as their callers see them: one answer, and one content of every lent word and byte, for all inputs. Assumes nothing.
use Rattle.std.specs.Prelude.{ℕ, suc, ◌-◌, ◌≤◌, ◌≡◌, Bool, cond, ◌&&◌, List, [], ◌∷◌, ◌++◌, eqb, leb, ltb, length}
use Rattle.std.proofs.Common.{◌∙◌, sym}
use Rattle.text.specs.Printed.{Put}
use Rattle.event.specs.Events.{bytes_within}
use Rattle.player.specs.Limits.{count_bound}
use Rattle.player.specs.Numbers.{working, player_numbers, player_words, player_of}
use Rattle.player.specs.Fitting.{fits as fits_by}
use Rattle.listing.specs.declared.Played.{Played}
use Rattle.listing.specs.Limits.{clock_room}
use Rattle.listing.specs.Steps.{end_of}
use Rattle.listing.specs.Listing.{Play, Turn, turn_bytes, byte_turn}

-- the lent words and bytes of a player
pub record Lent : Type 0 where
  pub numbers : List ℕ
  pub attributes : List ℕ
  pub registers : List ℕ
  pub ports : List ℕ
  pub outputs : List ℕ
  pub line : List ℕ

abbrev pub lending : (numbers attributes registers ports outputs line : List ℕ) → Lent
lending ns at rs ps os line = record { numbers = ns; attributes = at; registers = rs; ports = ps; outputs = os; line = line }

unfoldable pub play_of : Lent → Play
play_of l = record {
  player = player_of l.numbers;
  attributes = l.attributes;
  registers = l.registers;
  ports = l.ports;
  outputs = l.outputs;
  line = l.line;
}

unfoldable pub lent_of : Play → Lent
lent_of p = record {
  numbers = player_words p.player;
  attributes = p.attributes;
  registers = p.registers;
  ports = p.ports;
  outputs = p.outputs;
  line = p.line;
}

-- ---- `play`

-- what is lent is a player's, and its counts have room for n lines and n clocks more
abbrev pub fits : (n : ℕ) → Lent → Bool
fits n l =
    fits_by n l.numbers (length l.attributes) (length l.registers) (length l.ports) (length l.outputs) (length l.line)

-- how many bytes of a piece were taken, what is known then, and what was printed
pub record Outcome : Type 0 where
  pub used : ℕ
  pub play : Play
  pub says : List ℕ

abbrev pub nothing : Play → Outcome
nothing p = record { used = 0; play = p; says = [] }

abbrev pub further : Turn → Outcome → Outcome
further t o = record { used = suc o.used; play = o.play; says = turn_bytes t ++ o.says }

-- byte after byte, while there is room
abbrev pub played : (room : ℕ) → Play → (piece : List ℕ) → Outcome
played room p [] = nothing p
played room p (b ∷ bs) =
    cond (leb clock_room room)
    (further (byte_turn p b) (played (room - length (turn_bytes (byte_turn p b))) (byte_turn p b).play bs))
    (nothing p)

-- what is lent at exit
unfoldable pub lent_after : Lent → (piece out : List ℕ) → Lent
lent_after l piece out = cond (fits (length piece) l) (lent_of (played (length out) (play_of l) piece).play) l

-- whether there is more to play: what is lent is a player's, and the listing is neither refused nor matched
unfoldable pub goes_after : Lent → (piece out : List ℕ) → Bool
goes_after l piece out = fits (length piece) l && working (played (length out) (play_of l) piece).play.player.phase

unfoldable pub outcome_of : Lent → (piece out : List ℕ) → Outcome
outcome_of l piece out = cond (fits (length piece) l) (played (length out) (play_of l) piece) (nothing (play_of l))

pub record PiecePlayed (piece : List ℕ) (l : Lent) (out : List ℕ) (r : Played) (l' : Lent) (out' : List ℕ) : Type 0 where
  pub used : r.used ≡ (outcome_of l piece out).used
  pub goes : r.goes ≡ goes_after l piece out
  pub says : Put 0 (outcome_of l piece out).says out r.made out'
  pub lent : l' ≡ lent_after l piece out
  -- so that both can end a part
  pub part : r.used ≤ length piece
  pub room : r.made ≤ length out

-- ---- `finish`

-- the bytes at the end of the input, where the lent numbers are a player's and there is room for them
unfoldable pub end_bytes : (numbers out : List ℕ) → List ℕ
end_bytes ns out =
    cond (eqb (length ns) player_numbers && ltb 0 (count_bound - (player_of ns).lines)) (bytes_within (end_of (player_of ns)) 0 [] 0 out) []

pub record Finished (numbers out : List ℕ) (r : ℕ) (out' : List ℕ) : Type 0 where
  pub says : Put 0 (end_bytes numbers out) out r out'
  pub room : r ≤ length out

-- ---- no second outcome fits

pub one_piece : {piece : List ℕ} {l : Lent} {out : List ℕ} {r₁ r₂ : Played} {l₁ l₂ : Lent} {out₁ out₂ : List ℕ}
    → PiecePlayed piece l out r₁ l₁ out₁ → PiecePlayed piece l out r₂ l₂ out₂
    → (r₁.used ≡ r₂.used) × (r₁.made ≡ r₂.made) × (r₁.goes ≡ r₂.goes) × (l₁ ≡ l₂) × (out₁ ≡ out₂)
one_piece a b = (
  a.used ∙ sym b.used,
  a.says.ends ∙ sym b.says.ends,
  a.goes ∙ sym b.goes,
  a.lent ∙ sym b.lent,
  a.says.bytes ∙ sym b.says.bytes,
)

pub one_end : {numbers out : List ℕ} {r₁ r₂ : ℕ} {out₁ out₂ : List ℕ} → Finished numbers out r₁ out₁ → Finished numbers out r₂ out₂
    → (r₁ ≡ r₂) × (out₁ ≡ out₂)
one_end a b = (a.says.ends ∙ sym b.says.ends, a.says.bytes ∙ sym b.says.bytes)
