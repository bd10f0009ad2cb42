-- The lines of a group, one a slice: malformed, one of them, the last of them; and the words that they leave. Assumes nothing.
use mathlib.Core.Path.{◌≡◌, sym, ap, ap₂, ◌∙◌}
use mathlib.Core.Bool.{Bool, true, false}
use mathlib.Core.List.{List, ◌++◌}
use Prim.Native.Nat.{ℕ, ◌+◌, ◌*◌, ◌-◌, ◌<◌, ◌≤◌}
use native.Mathlib.Nat.{mul-suc, mul-le-mul_left}
use native.Mathlib.Omega.{arith}
use lib.ListN.{length, take, drop, length-take, length-drop}
use lib.Seq.{drop-drop}
use borrow.Author.Tests.{lt-leb, le-leb, eq-eqb}
use Rattle.records.specs.Records.{attribute_words, port_words}
use Rattle.column.proofs.Stacks.{part_count}
use Rattle.text.specs.Bytes.{newline}
use Rattle.text.specs.Numbers.{Numbers, line_of, is_well, words_of}
use Rattle.text.specs.Printed.{pasted}
use Rattle.text.specs.Calls.{Taken}
use Rattle.text.proofs.Paste.{pasted_length}
use Rattle.text.proofs.Lines.{words_length}
use Rattle.player.specs.declared.Phase.{Phase}
use Rattle.player.specs.declared.Phase.TheVariants.{Settings, Clocks}
use Rattle.player.specs.declared.Player.{Player}
use Rattle.listing.specs.declared.steps.Step.{Step}
use Rattle.listing.specs.Letters.{letter_p}
use Rattle.player.specs.Limits.{most_slices}
use Rattle.listing.specs.Steps.{counted, one_more, goes_on, refusal, group_step, settings_step, clock_step}
use Rattle.player.specs.Numbers.{working}
use Rattle.listing.specs.Listing.{Left, leaving, settings_line, settings_of, clock_of, clocked_outputs, line_leaves, ports_leave, turn_of, byte_turn}
use Rattle.listing.specs.Parts.{SettingsRead, SettingsTaken, PortsTaken, playing}
use Rattle.listing.proofs.SettingsLine.{settings_length}

-- ---- the step of a line

module _ (q : Player) (well : Bool) (whole : Step) where
  pub malformed_step : well ≡ false → group_step q well whole ≡ refusal q 12 q.lines
  unfolding group_step
  malformed_step w = rw w

  pub one_of_step : well ≡ true → q.given + 1 < q.count → group_step q well whole ≡ goes_on (one_more q)
  unfolding group_step
  one_of_step w h = rw (w, lt-leb q.count (q.given + 1) h)

  pub last_step : well ≡ true → q.count ≤ q.given + 1 → group_step q well whole ≡ whole
  unfolding group_step
  last_step w h = rw (w, le-leb q.count (q.given + 1) h)

-- ---- the words of a line, read into their slice's stretch

-- a slice's stretch lies within the words of 24
pub stretch_room : (n k : ℕ) (ws : List ℕ) → k < most_slices → length ws ≡ n * most_slices → n * k + n ≤ length ws
stretch_room n k ws h l = omega (arith, mul-suc n k, mul-le-mul_left n h)

-- what stands at the stretch of slice k once got was put there
abbrev pub put_at : (n k : ℕ) (ws got : List ℕ) → List ℕ
put_at n k ws got = take (n * k) ws ++ (got ++ drop (n * k + n - n * k) (drop (n * k) ws))

-- a line whose numbers were read into the stretch of slice k
pub record ReadIn (x : Numbers) (n k : ℕ) (ws : List ℕ) (r : Bool) (got : List ℕ) : Type 0 where
  pub well : is_well x ≡ r
  pub words : put_at n k ws got ≡ pasted (n * k) (words_of n x) ws
  pub long : length (put_at n k ws got) ≡ length ws

pub read_well : {x : Numbers} {n k : ℕ} {ws : List ℕ} {r s : Bool} {got : List ℕ} → ReadIn x n k ws r got → r ≡ s → ReadIn x n k ws s got
read_well t e = record { well = t.well ∙ e; words = t.words; long = t.long }

module _ (n k : ℕ) (ws : List ℕ) (h : k < most_slices) (l : length ws ≡ n * most_slices) where
  -- what is lent of them
  abbrev lent : List ℕ
  lent = take (n * k + n - n * k) (drop (n * k) ws)

  lent_length : length lent ≡ n
  lent_length = let room = stretch_room n k ws h l in simp (length-take, length-drop) (omega arith)

  read_in : (x : Numbers) {r : Bool} {got : List ℕ} → length (words_of n x) ≡ n → r ≡ is_well x → got ≡ words_of n x → ReadIn x n k ws r got
  read_in x {got = got} long e f =
      let end : drop (n * k + n - n * k) (drop (n * k) ws) ≡ drop (n * k + length (words_of n x)) ws =
      ap (λ (m : ℕ). drop m (drop (n * k) ws)) (part_count n k) ∙ drop-drop n (n * k) ws ∙ ap (λ (m : ℕ). drop (n * k + m) ws) (sym long) in
      let words : put_at n k ws got ≡ pasted (n * k) (words_of n x) ws = ap₂ (λ (a b : List ℕ). take (n * k) ws ++ (a ++ b)) f end in
      record {
        well = sym e;
        words = words;
        long = ap length words ∙ pasted_length (n * k) (words_of n x) ws (omega (arith, long, stretch_room n k ws h l));
      }

  -- a line of n numbers
  pub line_in : (letter : ℕ) (line : List ℕ) {r : Bool} {got : List ℕ} → Taken letter line lent r got → ReadIn (line_of letter n line) n k ws r got
  line_in letter line t =
      read_in (line_of letter n line) (words_length letter n line) (t.well ∙ ap (λ (m : ℕ). is_well (line_of letter m line)) lent_length)
      (t.words ∙ ap (λ (m : ℕ). words_of m (line_of letter m line)) lent_length)

-- a `P` line whose numbers were read into the stretch of slice k
pub ports_in : {k : ℕ} {ws line got : List ℕ} {r : Bool} → k < most_slices → length ws ≡ port_words * most_slices
    → Taken letter_p line (take (port_words * k + port_words - port_words * k) (drop (port_words * k) ws)) r got
    → ReadIn (line_of letter_p port_words line) port_words k ws r got
ports_in {k} {ws} {line} h l t = line_in port_words k ws h l letter_p line t

-- and an `A` line
pub settings_in : {k : ℕ} {ws line got : List ℕ} {r : Bool} → k < most_slices → length ws ≡ attribute_words * most_slices
    → SettingsRead line r got → ReadIn (settings_line line) attribute_words k ws r got
settings_in {k} {ws} {line} h l t = read_in attribute_words k ws h l (settings_line line) (settings_length line) t.well t.words

-- ---- what the lines leave, as one

-- a newline ends a line of the kind that is due
pub line_turned : (q q' : Player) (b : ℕ) (line at rs ps os : List ℕ) (f : Phase) (l : Left) → working q.phase ≡ true → b ≡ newline → q.phase ≡ f
    → q' ≡ counted q → l ≡ line_leaves f q' (take q.held line) at rs ps os → turn_of l line ≡ byte_turn (playing q at rs ps os line) b
unfolding byte_turn
line_turned q q' b line at rs ps os f l works e due counts h =
    rw (works, eq-eqb b newline e)
    (ap (λ (x : Left). turn_of x line)
    (h ∙ ap₂ (λ (x : Phase) (y : Player). line_leaves x y (take q.held line) at rs ps os) (sym due) counts))

module _ (q : Player) (line at rs ps os : List ℕ) (r : Step) where
  pub settings_left : (at' : List ℕ) → SettingsTaken q line at r at' → leaving r at' rs ps os ≡ line_leaves Settings q line at rs ps os
  settings_left at' t =
      ap (λ (s : Step). leaving s at' rs ps os) t.step
      ∙ ap (λ (l : List ℕ). leaving (group_step q (is_well (settings_line line)) (settings_step q (settings_of q l))) l rs ps os) t.words

  pub ports_left : (rs' ps' os' : List ℕ) → PortsTaken q line at rs ps os r rs' ps' os' → leaving r at rs' ps' os' ≡ line_leaves Clocks q line at rs ps os
  ports_left rs' ps' os' t =
      ap (λ (s : Step). leaving s at rs' ps' os') t.step
      ∙ ap₂ (λ (x y : List ℕ). leaving (group_step q (is_well (line_of letter_p port_words line)) (clock_step q (clock_of q at rs ps' os) (clocked_outputs q at rs ps' os))) at x ps' y)
      t.registers t.outputs
      ∙ ap (λ (l : List ℕ). ports_leave q (line_of letter_p port_words line) at rs l os) t.ports
