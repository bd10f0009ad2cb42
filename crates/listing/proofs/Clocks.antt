-- The column's words among those of 24 slices. Assumes nothing.
use mathlib.Core.Path.{◌≡◌, sym, ap, ap₂, ◌∙◌}
use mathlib.Core.Bool.{true}
use mathlib.Core.List.{List, ◌++◌}
use Prim.Native.Nat.{ℕ, zero, suc, ◌+◌, ◌*◌, ◌≤◌}
use native.Mathlib.Nat.{zero-add, mul-le-mul_left}
use native.Mathlib.Omega.{arith}
use lib.ListN.{length, take, drop, take-append-drop}
use lib.Seq.{length-take-le}
use borrow.Author.Tests.{le-leb}
use Rattle.column.specs.Refusals.{Answer, number_of}
use Rattle.column.specs.Column.{column_next, column_shown}
use Rattle.text.specs.Numbers.{line_of}
use Rattle.text.specs.Printed.{pasted}
use Rattle.lent.specs.Refusing.{leaves}
use Rattle.records.specs.Records.{attribute_words, register_words, port_words, output_words}
use Rattle.player.specs.declared.Player.{Player}
use Rattle.player.specs.Limits.{most_slices}
use Rattle.column.specs.Calls.{Clocked}
use Rattle.listing.specs.declared.steps.Step.{Step}
use Rattle.listing.specs.Letters.{letter_p}
use Rattle.listing.specs.Steps.{clock_step}
use Rattle.listing.specs.Listing.{clock_of, clocked_registers, clocked_outputs}
use Rattle.listing.specs.Parts.{PortsTaken}
use Rattle.listing.proofs.Groups.{put_at, ReadIn, last_step}

-- the words of count slices among those of 24
pub within : (n count : ℕ) (ws : List ℕ) → count ≤ most_slices → length ws ≡ n * most_slices → n * count ≤ length ws
within n count ws h l = omega (arith, mul-le-mul_left n h)

-- and how many they are
pub front_length : (n count : ℕ) (ws : List ℕ) → count ≤ most_slices → length ws ≡ n * most_slices → length (take (n * count) ws) ≡ n * count
front_length n count ws h l = length-take-le (n * count) ws (within n count ws h l)

-- what a clock leaves in the front of the words, and so in all of them
clock_leaves : (number m : ℕ) (new ws got : List ℕ) → length got ≡ m → got ≡ leaves number new (take m ws)
    → got ++ drop m ws ≡ leaves number (pasted 0 new ws) ws
clock_leaves zero m new ws got l e =
    let k : m ≡ 0 + length new = sym l ∙ ap length e ∙ sym (zero-add (length new)) in
    ap (λ (x : List ℕ). x ++ drop m ws) e ∙ ap (λ (i : ℕ). new ++ drop i ws) k
clock_leaves (suc n) m new ws got l e = ap (λ (x : List ℕ). x ++ drop m ws) e ∙ take-append-drop m ws

module _ (q : Player) (at rs ps os got : List ℕ) (few : q.count ≤ most_slices) where
  pub registers_left : length rs ≡ register_words * most_slices → length got ≡ length (take (register_words * q.count) rs)
      → got
      ≡ leaves (number_of (clock_of q at rs ps os))
      (column_next q.count (take (attribute_words * q.count) at) (take (register_words * q.count) rs) (take (port_words * q.count) ps))
      (take (register_words * q.count) rs)
      → got ++ drop (register_words * q.count) rs ≡ clocked_registers q at rs ps os
  unfolding clocked_registers
  registers_left l k e =
      clock_leaves (number_of (clock_of q at rs ps os)) (register_words * q.count)
      (column_next q.count (take (attribute_words * q.count) at) (take (register_words * q.count) rs) (take (port_words * q.count) ps)) rs got
      (k ∙ front_length register_words q.count rs few l) e

  pub outputs_left : length os ≡ output_words * most_slices → length got ≡ length (take (output_words * q.count) os)
      → got
      ≡ leaves (number_of (clock_of q at rs ps os))
      (column_shown q.count (take (attribute_words * q.count) at) (take (register_words * q.count) rs) (take (port_words * q.count) ps))
      (take (output_words * q.count) os)
      → got ++ drop (output_words * q.count) os ≡ clocked_outputs q at rs ps os
  unfolding clocked_outputs
  outputs_left l k e =
      clock_leaves (number_of (clock_of q at rs ps os)) (output_words * q.count)
      (column_shown q.count (take (attribute_words * q.count) at) (take (register_words * q.count) rs) (take (port_words * q.count) ps)) os got
      (k ∙ front_length output_words q.count os few l) e

-- the last line of a clock: its numbers stand in their slice's stretch, and the column has run its clock
module _ (q : Player) (line at rs ps os got : List ℕ) (few : q.count ≤ most_slices)
    (all_registers : length rs ≡ register_words * most_slices) (all_outputs : length os ≡ output_words * most_slices)
    (read : ReadIn (line_of letter_p port_words line) port_words q.given ps true got) (whole : q.count ≤ q.given + 1) where
  abbrev lent : List ℕ
  lent = put_at port_words q.given ps got

  pub clock_taken : (a : Answer) (rs' os' : List ℕ) → length rs' ≡ length (take (register_words * q.count) rs)
      → length os' ≡ length (take (output_words * q.count) os)
      → Clocked q.count (take (attribute_words * q.count) at) (take (register_words * q.count) rs) (take (port_words * q.count) lent)
      (take (output_words * q.count) os) a rs' os'
      → (r : Step) → r ≡ clock_step q a (os' ++ drop (output_words * q.count) os)
      → PortsTaken q line at rs ps os r (rs' ++ drop (register_words * q.count) rs) lent (os' ++ drop (output_words * q.count) os)
  clock_taken a rs' os' l k c r step =
      let registers = registers_left q at rs lent os rs' few all_registers l c.registers in
      let outputs = outputs_left q at rs lent os os' few all_outputs k c.outputs in
      record {
        ports = read.words;
        step =
            step
            ∙ ap₂ (λ (x : Answer) (ys : List ℕ). clock_step q x ys) c.answer outputs
            ∙ sym (last_step q _ _ read.well whole);
        registers = rw (read.well, le-leb q.count (q.given + 1) whole) registers;
        outputs = rw (read.well, le-leb q.count (q.given + 1) whole) outputs;
      }
