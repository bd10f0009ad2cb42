-- Laws of the answer: where it is accepted every check has passed and every slice has its edge, where it is not nothing is stored, and the
-- slice that it reports is below 24. Assumes nothing.
use mathlib.Core.Path.{◌≡◌, refl, ap, subst, sym, ◌∙◌}
use mathlib.Core.Bool.{Bool, true, false, true≢false, ◌&&◌}
use mathlib.Core.List.{List}
use Prim.Native.Nat.{ℕ, ◌*◌, ◌<◌, ◌≤◌}
use native.Mathlib.Nat.{lt_of_lt_of_le}
use native.Mathlib.Omega.{arith}
use lib.Dec.{eqb, ltb, lit<}
use lib.ListN.{length}
use borrow.Author.Tests.{eqb-true, eq-eqb, ltb-true}
use Rattle.std.specs.Prelude.{Option, None, Some, Result, Ok, Err, IsErr}
use Rattle.std.specs.Result.{result_and}
use Rattle.word.proofs.Laws.{both_true}
use Rattle.lent.specs.Refusing.{unless, leaves}
use Rattle.lent.proofs.Laws.{kept}
use Rattle.records.specs.Records.{attribute_words, register_words, port_words, output_words}
use Rattle.reason.specs.declared.Reason.{Reason}
use Rattle.column.specs.declared.Check.{Check}
use Rattle.column.specs.declared.Check.TheVariants.{Attribute, Register, Port, Inmode, Opmode, Alumode, Carryinsel}
use Rattle.column.specs.declared.Refusal.{Refusal}
use Rattle.column.specs.declared.Refusal.TheVariants.{BadCount, BadLength, Broken, BadSlice}
use Rattle.column.specs.Column.{column_shown, column_next}
use Rattle.column.specs.Refusals.{Answer, accepted, check_number, number_of, place_of, fails, lowest, refuse, broken, rules, settings, count_fits, lengths_fit, inputs_fit, clock_answer, clear_answer, attributes_answer, why_answer}
use Rattle.column.specs.Calls.{Clocked, reason_at, why_of}
use Rattle.column.specs.Parts.{Lengths, Reaches, asked_answer}
use Rattle.column.proofs.Search.{few, lowest_says}

-- what holds of the seven holds of each
pub each_check : (P : Check → Type 0) → P Attribute → P Register → P Port → P Inmode → P Opmode → P Alumode → P Carryinsel → (check : Check) → P check
each_check P p3 p4 p5 p6 p7 p8 p9 Attribute = p3
each_check P p3 p4 p5 p6 p7 p8 p9 Register = p4
each_check P p3 p4 p5 p6 p7 p8 p9 Port = p5
each_check P p3 p4 p5 p6 p7 p8 p9 Inmode = p6
each_check P p3 p4 p5 p6 p7 p8 p9 Opmode = p7
each_check P p3 p4 p5 p6 p7 p8 p9 Alumode = p8
each_check P p3 p4 p5 p6 p7 p8 p9 Carryinsel = p9

-- ---- accepted

-- where no slice fails any check, the settings are accepted
pub none_fails : (count : ℕ) (at rs ps : List ℕ)
    → ((check : Check) → lowest (fails check at rs ps) count ≡ None) → settings count at rs ps ≡ accepted
unfolding settings rules
none_fails count at rs ps none =
    rw (none Attribute, none Register, none Port, none Inmode, none Opmode, none Alumode, none Carryinsel)

-- an answer with a number above 0 is not accepted
refusal : (a : Answer) → 0 < number_of a → a ≡ accepted → ⊥
refusal a h p = let e : number_of a ≡ 0 = ap number_of p in omega arith

unless_passes : (b : Bool) (refused next : Answer) → 0 < number_of refused → unless b refused next ≡ accepted → (b ≡ true) × (next ≡ accepted)
unless_passes true refused next h p = (refl, p)
unless_passes false refused next h p = absurd (refusal refused h p)

check_above : (check : Check) → 0 < check_number check
check_above = each_check (λ check. 0 < check_number check) (lit< tt) (lit< tt) (lit< tt) (lit< tt) (lit< tt) (lit< tt) (lit< tt)

refuse_passes : (check : Check) (found : Option ℕ) (next : Answer) → refuse check found next ≡ accepted → (found ≡ None) × (next ≡ accepted)
refuse_passes check None next p = (refl, p)
refuse_passes check (Some k) next p = absurd (refusal (Err (Broken check k)) (check_above check) p)

-- where the settings are accepted, no slice fails a check
pub accepted_none : (count : ℕ) (at rs ps : List ℕ) → settings count at rs ps ≡ accepted → (check : Check) → lowest (fails check at rs ps) count ≡ None
unfolding settings rules
accepted_none count at rs ps p =
    let p3 = refuse_passes Attribute (lowest (fails Attribute at rs ps) count) _ p in
    let p4 = refuse_passes Register (lowest (fails Register at rs ps) count) _ p3.1 in
    let p5 = refuse_passes Port (lowest (fails Port at rs ps) count) _ p4.1 in
    let p6 = refuse_passes Inmode (lowest (fails Inmode at rs ps) count) _ p5.1 in
    let p7 = refuse_passes Opmode (lowest (fails Opmode at rs ps) count) _ p6.1 in
    let p8 = refuse_passes Alumode (lowest (fails Alumode at rs ps) count) _ p7.1 in
    let p9 = refuse_passes Carryinsel (lowest (fails Carryinsel at rs ps) count) _ p8.1 in
    each_check (λ check. lowest (fails check at rs ps) count ≡ None) p3.0 p4.0 p5.0 p6.0 p7.0 p8.0 p9.0

-- a column that is ready for its edge
pub record Ready (count : ℕ) (at rs ps os : List ℕ) : Type 0 where
  pub few : count ≤ 24
  pub lengths : Lengths count at rs ps
  pub outputs : length os ≡ output_words * count

pub input_lengths : (count : ℕ) (at rs ps : List ℕ) → inputs_fit count at rs ps ≡ true → Lengths count at rs ps
unfolding inputs_fit
input_lengths count at rs ps p =
    let p3 = both_true _ (eqb (length ps) (port_words * count)) p in
    let p2 = both_true (eqb (length at) (attribute_words * count)) (eqb (length rs) (register_words * count)) p3.0 in
    record { attributes = eqb-true _ _ p2.0; registers = eqb-true _ _ p2.1; ports = eqb-true _ _ p3.1 }

-- a clock's lengths are those of its inputs and of its outputs
pub lengths_parts : (count : ℕ) (at rs ps os : List ℕ)
    → lengths_fit count at rs ps os ≡ (inputs_fit count at rs ps && eqb (length os) (output_words * count))
unfolding lengths_fit inputs_fit
lengths_parts count at rs ps os = refl

pub right_lengths : (count : ℕ) (at rs ps os : List ℕ) → lengths_fit count at rs ps os ≡ true
    → Lengths count at rs ps × (length os ≡ output_words * count)
right_lengths count at rs ps os p =
    let p4 = both_true (inputs_fit count at rs ps) (eqb (length os) (output_words * count)) (sym (lengths_parts count at rs ps os) ∙ p) in
    (input_lengths count at rs ps p4.0, eqb-true _ _ p4.1)

-- an accepted clock has passed 1 and 2, and its settings are accepted
clock_passes : (count : ℕ) (at rs ps os : List ℕ) → clock_answer count at rs ps os ≡ accepted
    → (count_fits count ≡ true) × (lengths_fit count at rs ps os ≡ true) × (settings count at rs ps ≡ accepted)
unfolding clock_answer
clock_passes count at rs ps os p =
    let p1 = unless_passes (count_fits count) (Err BadCount) _ (lit< tt) p in
    let p2 = unless_passes (lengths_fit count at rs ps os) (Err BadLength) (settings count at rs ps) (lit< tt) p1.1 in
    (p1.0, p2.0, p2.1)

pub accepted_ready : (count : ℕ) (at rs ps os : List ℕ) → clock_answer count at rs ps os ≡ accepted → Ready count at rs ps os
accepted_ready count at rs ps os p =
    let passed = clock_passes count at rs ps os p in
    let long = right_lengths count at rs ps os passed.1 in
    record { few = few count passed.0; lengths = long.0; outputs = long.1 }

pub accepted_settings : (count : ℕ) (at rs ps os : List ℕ) → clock_answer count at rs ps os ≡ accepted → settings count at rs ps ≡ accepted
accepted_settings count at rs ps os p = (clock_passes count at rs ps os p).2

-- what an accepted clock leaves: every slice has had its edge
pub accepted_leaves : {count : ℕ} {at rs ps os rs' os' : List ℕ} → Clocked count at rs ps os accepted rs' os'
    → (rs' ≡ column_next count at rs ps) × (os' ≡ column_shown count at rs ps)
accepted_leaves {count} {at} {rs} {ps} {os} c = (
  c.registers ∙ ap (λ (a : Answer). leaves (number_of a) (column_next count at rs ps) rs) (sym c.answer),
  c.outputs ∙ ap (λ (a : Answer). leaves (number_of a) (column_shown count at rs ps) os) (sym c.answer),
)

-- columns of the right count and lengths are answered by their settings
pub clock_settings : (count : ℕ) (at rs ps os : List ℕ) → count_fits count ≡ true → Lengths count at rs ps → length os ≡ output_words * count
    → clock_answer count at rs ps os ≡ settings count at rs ps
unfolding clock_answer lengths_fit
clock_settings count at rs ps os counted long wide =
    rw (
      counted,
      eq-eqb (length at) (attribute_words * count) long.attributes,
      eq-eqb (length rs) (register_words * count) long.registers,
      eq-eqb (length ps) (port_words * count) long.ports,
      eq-eqb (length os) (output_words * count) wide,
    )

-- an answer that is not accepted has a number above 0
pub not_accepted : (a : Answer) → (a ≡ accepted → ⊥) → 0 < number_of a
not_accepted (Ok v) h = absurd (h refl)
not_accepted (Err BadCount) h = lit< tt
not_accepted (Err BadLength) h = lit< tt
not_accepted (Err (Broken check k)) h = check_above check
not_accepted (Err BadSlice) h = lit< tt

-- so has what is refused
pub refused : (a : Answer) → IsErr a → 0 < number_of a
refused (Ok v) h = absurd (true≢false (sym h))
refused (Err refusal) h = not_accepted (Err refusal) (λ p. cc)

-- a slice that `why` may tell of, if a clock allows it
pub record Asked (count : ℕ) (at rs ps : List ℕ) (k : ℕ) : Type 0 where
  pub counted : count_fits count ≡ true
  pub lengths : Lengths count at rs ps
  pub reaches : Reaches k at rs ps
  pub answer : why_answer count at rs ps k ≡ settings count at rs ps

pub asked_ready : (count : ℕ) (at rs ps : List ℕ) (k : ℕ) → asked_answer count at rs ps k ≡ accepted → Asked count at rs ps k
unfolding asked_answer why_answer
asked_ready count at rs ps k p =
    let p1 = unless_passes (count_fits count) (Err BadCount) _ (lit< tt) p in
    let p2 = unless_passes (inputs_fit count at rs ps) (Err BadLength) _ (lit< tt) p1.1 in
    let p3 = unless_passes (ltb k count) (Err BadSlice) accepted (lit< tt) p2.1 in
    let h = ltb-true k count p3.0 in
    let long = input_lengths count at rs ps p2.0 in
    record {
      counted = p1.0;
      lengths = long;
      reaches =
          record {
            attributes = omega (arith, long.attributes, h);
            registers = omega (arith, long.registers, h);
            ports = omega (arith, long.ports, h);
          };
      answer = rw (p1.0, p2.0, p3.0);
    }

-- what is refused before 3 to 9 is the answer
pub asked_refuses : (count : ℕ) (at rs ps : List ℕ) (k : ℕ) → 0 < number_of (asked_answer count at rs ps k)
    → asked_answer count at rs ps k ≡ why_answer count at rs ps k
unfolding asked_answer why_answer
asked_refuses count at rs ps k = by (count_fits count) (inputs_fit count at rs ps) (ltb k count)
  where
    by : (x y z : Bool) → 0 < number_of (unless x (Err BadCount) (unless y (Err BadLength) (unless z (Err BadSlice) accepted)))
        → unless x (Err BadCount) (unless y (Err BadLength) (unless z (Err BadSlice) accepted))
        ≡ unless x (Err BadCount) (unless y (Err BadLength) (unless z (Err BadSlice) (settings count at rs ps)))
    by false y z h = refl
    by true false z h = refl
    by true true false h = refl
    by true true true h = absurd (omega arith)

-- where its answer is accepted, `why` tells the reason
pub why_tells : (count : ℕ) (at rs ps : List ℕ) (k : ℕ) → why_answer count at rs ps k ≡ accepted
    → why_of count at rs ps k ≡ Ok (reason_at at rs ps k)
unfolding why_of
why_tells count at rs ps k e = rw e

pub cleared_length : (count : ℕ) (rs : List ℕ) → clear_answer count rs ≡ accepted → length rs ≡ register_words * count
unfolding clear_answer
cleared_length count rs p =
    let p1 = unless_passes (count_fits count) (Err BadCount) _ (lit< tt) p in
    eqb-true _ _ (unless_passes (eqb (length rs) (register_words * count)) (Err BadLength) accepted (lit< tt) p1.1).0

-- attributes that pass by themselves: they are as many as they must be, and no slice of them fails whatever stands beside them
pub accepted_attributes : (count : ℕ) (at rs ps : List ℕ) → attributes_answer count at ≡ accepted
    → (count_fits count ≡ true) × (length at ≡ attribute_words * count) × (lowest (fails Attribute at rs ps) count ≡ None)
unfolding attributes_answer fails broken
accepted_attributes count at rs ps p =
    let p1 = unless_passes (count_fits count) (Err BadCount) _ (lit< tt) p in
    let p2 = unless_passes (eqb (length at) (attribute_words * count)) (Err BadLength) _ (lit< tt) p1.1 in
    (p1.0, eqb-true _ _ p2.0, (refuse_passes Attribute (lowest (fails Attribute at rs ps) count) accepted p2.1).0)

unless_other : (n : ℕ) (b : Bool) (refused next : Answer) → (number_of refused ≡ n → ⊥) → (number_of next ≡ n → ⊥) → number_of (unless b refused next) ≡ n → ⊥
unless_other n true refused next r h = h
unless_other n false refused next r h = r

refuse_other : (n : ℕ) (check : Check) (found : Option ℕ) (next : Answer) → (check_number check ≡ n → ⊥) → (number_of next ≡ n → ⊥) → number_of (refuse check found next) ≡ n → ⊥
refuse_other n check None next r h = h
refuse_other n check (Some k) next r h = r

-- so that no clock of them gives number 3
pub attributes_passed : (count : ℕ) (at rs ps os : List ℕ) → attributes_answer count at ≡ accepted → number_of (clock_answer count at rs ps os) ≡ 3 → ⊥
unfolding clock_answer settings rules
attributes_passed count at rs ps os p =
    rw (accepted_attributes count at rs ps p).2
    (unless_other 3 (count_fits count) (Err BadCount) _ (λ e. omega arith)
    (unless_other 3 (lengths_fit count at rs ps os) (Err BadLength) _ (λ e. omega arith)
    (refuse_other 3 Register (lowest (fails Register at rs ps) count) _ (λ e. omega arith)
    (refuse_other 3 Port (lowest (fails Port at rs ps) count) _ (λ e. omega arith)
    (refuse_other 3 Inmode (lowest (fails Inmode at rs ps) count) _ (λ e. omega arith)
    (refuse_other 3 Opmode (lowest (fails Opmode at rs ps) count) _ (λ e. omega arith)
    (refuse_other 3 Alumode (lowest (fails Alumode at rs ps) count) _ (λ e. omega arith)
    (refuse_other 3 Carryinsel (lowest (fails Carryinsel at rs ps) count) _ (λ e. omega arith) (λ e. omega arith)))))))))

-- ---- refused

-- "A refusal stores nothing, in registers or in outputs"
pub refused_keeps : {count : ℕ} {at rs ps os : List ℕ} {r : Answer} {rs' os' : List ℕ} → Clocked count at rs ps os r rs' os' → 0 < number_of r
    → (rs' ≡ rs) × (os' ≡ os)
refused_keeps {count} {at} {rs} {ps} {os} {r} c h =
    let above : 0 < number_of (clock_answer count at rs ps os) = subst (λ (a : Answer). 0 < number_of a) c.answer h in
    (c.registers ∙ sym (kept _ above (column_next count at rs ps) rs), c.outputs ∙ sym (kept _ above (column_shown count at rs ps) os))

-- ---- the number, and the slice that is reported

pub check_small : (check : Check) → check_number check < 14
check_small = each_check (λ check. check_number check < 14) (lit< tt) (lit< tt) (lit< tt) (lit< tt) (lit< tt) (lit< tt) (lit< tt)

pub number_small : {A : Type 0} (a : Result A Refusal) → number_of a < 14
number_small (Ok v) = lit< tt
number_small (Err BadCount) = lit< tt
number_small (Err BadLength) = lit< tt
number_small (Err (Broken check k)) = check_small check
number_small (Err BadSlice) = lit< tt

refuse_place : (check : Check) (f : ℕ → Bool) (count : ℕ) (next : Answer) → count ≤ 24 → place_of next < 24
    → place_of (refuse check (lowest f count) next) < 24
refuse_place check f count next h l = by (lowest f count) (λ k e. (lowest_says f count k e).0)
  where
    by : (found : Option ℕ) → ((k : ℕ) → found ≡ Some k → k < count) → place_of (refuse check found next) < 24
    by None s = l
    by (Some k) s = lt_of_lt_of_le (s k refl) h

settings_place : (count : ℕ) (at rs ps : List ℕ) → count ≤ 24 → place_of (settings count at rs ps) < 24
unfolding settings rules
settings_place count at rs ps h =
    refuse_place Attribute (fails Attribute at rs ps) count _ h
    (refuse_place Register (fails Register at rs ps) count _ h
    (refuse_place Port (fails Port at rs ps) count _ h
    (refuse_place Inmode (fails Inmode at rs ps) count _ h
    (refuse_place Opmode (fails Opmode at rs ps) count _ h
    (refuse_place Alumode (fails Alumode at rs ps) count _ h
    (refuse_place Carryinsel (fails Carryinsel at rs ps) count _ h (lit< tt)))))))

unless_place : (b : Bool) (refused next : Answer) → place_of refused < 24 → (b ≡ true → place_of next < 24) → place_of (unless b refused next) < 24
unless_place true refused next r n = n refl
unless_place false refused next r n = r

pub clock_place : (count : ℕ) (at rs ps os : List ℕ) → place_of (clock_answer count at rs ps os) < 24
unfolding clock_answer
clock_place count at rs ps os =
    unless_place (count_fits count) (Err BadCount) _ (lit< tt)
    (λ p. unless_place (lengths_fit count at rs ps os) (Err BadLength) (settings count at rs ps) (lit< tt) (λ _. settings_place count at rs ps (few count p)))

pub clear_place : (count : ℕ) (rs : List ℕ) → place_of (clear_answer count rs) < 24
unfolding clear_answer
clear_place count rs =
    unless_place (count_fits count) (Err BadCount) _ (lit< tt)
    (λ _. unless_place (eqb (length rs) (register_words * count)) (Err BadLength) accepted (lit< tt) (λ _. lit< tt))

pub why_place : (count : ℕ) (at rs ps : List ℕ) (k : ℕ) → place_of (why_answer count at rs ps k) < 24
unfolding why_answer
why_place count at rs ps k =
    unless_place (count_fits count) (Err BadCount) _ (lit< tt)
    (λ p. unless_place (inputs_fit count at rs ps) (Err BadLength) _ (lit< tt)
    (λ _. unless_place (ltb k count) (Err BadSlice) (settings count at rs ps) (lit< tt) (λ _. settings_place count at rs ps (few count p))))

-- whether `why` tells or refuses, it answers by its checks
pub why_answers : (count : ℕ) (at rs ps : List ℕ) (k : ℕ) → result_and (why_of count at rs ps k) accepted ≡ why_answer count at rs ps k
unfolding why_of
why_answers count at rs ps k = by (why_answer count at rs ps k)
  where
    by : (a : Answer) → result_and (result_and a (Ok (reason_at at rs ps k))) accepted ≡ a
    by (Ok v) = refl
    by (Err refusal) = refl

-- so it has their number, and their place
pub why_number : (count : ℕ) (at rs ps : List ℕ) (k : ℕ) → number_of (why_of count at rs ps k) ≡ number_of (why_answer count at rs ps k)
why_number count at rs ps k = rw (← why_answers count at rs ps k) (by (why_of count at rs ps k))
  where
    by : (r : Result Reason Refusal) → number_of r ≡ number_of (result_and r accepted)
    by (Ok reason) = refl
    by (Err refusal) = refl

pub why_reports : (count : ℕ) (at rs ps : List ℕ) (k : ℕ) → place_of (why_of count at rs ps k) ≡ place_of (why_answer count at rs ps k)
why_reports count at rs ps k = rw (← why_answers count at rs ps k) (by (why_of count at rs ps k))
  where
    by : (r : Result Reason Refusal) → place_of r ≡ place_of (result_and r accepted)
    by (Ok reason) = refl
    by (Err refusal) = refl
