-- The refusals of a clock, of clearing, of the attributes alone (01, "Refusal numbers") and of `why` (02, Ask 3). Assumes nothing.
use Rattle.std.specs.Prelude.{ℕ, zero, suc, ◌*◌, Bool, true, false, ◌&&◌, ◌||◌, List, [], leb, ltb, eqb, length, ⊤, Option, None, Some, Result, Ok, Err}
use Rattle.lent.specs.Refusing.{unless}
use Rattle.records.specs.Records.{attribute_words, register_words, port_words, output_words, attribute_widths, register_widths, port_widths, exceeds, attributes_of, registers_of, ports_of}
use Rattle.legal.specs.declared.rules.Rule.TheVariants as rule
use Rattle.legal.specs.Legal.{off_list, breaks}
use Rattle.column.specs.declared.Check.{Check}
use Rattle.column.specs.declared.Check.TheVariants.{Attribute, Register, Port, Inmode, Opmode, Alumode, Carryinsel}
use Rattle.column.specs.declared.Refusal.{Refusal}
use Rattle.column.specs.declared.Refusal.TheVariants.{BadCount, BadLength, Broken, BadSlice}
use Rattle.column.specs.Column.{stretch}

-- what is refused, or that nothing is
abbrev pub Answer : Type 0
Answer = Result ⊤ Refusal

abbrev pub accepted : Answer
accepted = Ok tt

-- the number of each answer: 01's, and 13 of 02, Ask 3
abbrev pub check_number : Check → ℕ
check_number Attribute = 3
check_number Register = 4
check_number Port = 5
check_number Inmode = 6
check_number Opmode = 7
check_number Alumode = 8
check_number Carryinsel = 9

abbrev pub number_of : {A : Type 0} → Result A Refusal → ℕ
number_of (Ok value) = 0
number_of (Err BadCount) = 1
number_of (Err BadLength) = 2
number_of (Err (Broken check k)) = check_number check
number_of (Err BadSlice) = 13

-- and its slice: "0, 1 and 2 report slice 0", and so does 13
abbrev pub place_of : {A : Type 0} → Result A Refusal → ℕ
place_of (Ok value) = 0
place_of (Err BadCount) = 0
place_of (Err BadLength) = 0
place_of (Err (Broken check k)) = k
place_of (Err BadSlice) = 0

-- Given exactly when: a slice's own words break the check
unfoldable pub broken : Check → (at rs ps : List ℕ) → Bool
broken Attribute at rs ps = exceeds attribute_widths at || off_list (attributes_of at)
broken Register at rs ps = exceeds register_widths rs
broken Port at rs ps = exceeds port_widths ps
broken Inmode at rs ps = breaks rule.Inmode (attributes_of at) (registers_of rs) (ports_of ps)
broken Opmode at rs ps = breaks rule.Opmode (attributes_of at) (registers_of rs) (ports_of ps)
broken Alumode at rs ps = breaks rule.Alumode (attributes_of at) (registers_of rs) (ports_of ps)
broken Carryinsel at rs ps = breaks rule.Carryinsel (attributes_of at) (registers_of rs) (ports_of ps)

-- slice k of the lent words fails the check
unfoldable pub fails : Check → (at rs ps : List ℕ) → (k : ℕ) → Bool
fails check at rs ps k = broken check (stretch attribute_words k at) (stretch register_words k rs) (stretch port_words k ps)

abbrev pub or_else : Option ℕ → Bool → ℕ → Option ℕ
or_else (Some k) b n = Some k
or_else None true n = Some n
or_else None false n = None

-- "The lowest slice that fails a check is the one reported": the lowest number below n at which the test holds
abbrev pub lowest : (ℕ → Bool) → (n : ℕ) → Option ℕ
lowest f zero = None
lowest f (suc n) = or_else (lowest f n) (f n) n

abbrev pub refuse : Check → Option ℕ → Answer → Answer
refuse check None next = next
refuse check (Some k) next = Err (Broken check k)

-- 6 to 9, each over all slices before the next
unfoldable pub rules : (count : ℕ) → (at rs ps : List ℕ) → Answer
rules count at rs ps =
    refuse Inmode (lowest (fails Inmode at rs ps) count)
    (refuse Opmode (lowest (fails Opmode at rs ps) count)
    (refuse Alumode (lowest (fails Alumode at rs ps) count)
    (refuse Carryinsel (lowest (fails Carryinsel at rs ps) count)
    accepted)))

-- 3 to 9, each over all slices before the next: 3 to 5, then the rules
unfoldable pub settings : (count : ℕ) → (at rs ps : List ℕ) → Answer
settings count at rs ps =
    refuse Attribute (lowest (fails Attribute at rs ps) count)
    (refuse Register (lowest (fails Register at rs ps) count)
    (refuse Port (lowest (fails Port at rs ps) count)
    (rules count at rs ps)))

-- 1: slice count is not 1 to 24
abbrev pub count_fits : (count : ℕ) → Bool
count_fits count = leb 1 count && leb count 24

-- 2: a lent length differs from the required one
unfoldable pub lengths_fit : (count : ℕ) → (at rs ps os : List ℕ) → Bool
lengths_fit count at rs ps os =
    eqb (length at) (attribute_words * count)
    && eqb (length rs) (register_words * count)
    && eqb (length ps) (port_words * count)
    && eqb (length os) (output_words * count)

-- Order for a clock: 1, 2, then 3 to 9
unfoldable pub clock_answer : (count : ℕ) → (at rs ps os : List ℕ) → Answer
clock_answer count at rs ps os =
    unless (count_fits count) (Err BadCount) (unless (lengths_fit count at rs ps os) (Err BadLength) (settings count at rs ps))

-- Clearing checks 1, then 2
unfoldable pub clear_answer : (count : ℕ) → (rs : List ℕ) → Answer
clear_answer count rs =
    unless (count_fits count) (Err BadCount) (unless (eqb (length rs) (register_words * count)) (Err BadLength) accepted)

-- The attributes by themselves: 1, then 2 of their length, then 3
unfoldable pub attributes_answer : (count : ℕ) → (at : List ℕ) → Answer
attributes_answer count at =
    unless (count_fits count) (Err BadCount) (unless (eqb (length at) (attribute_words * count)) (Err BadLength)
    (refuse Attribute (lowest (fails Attribute at [] []) count) accepted))

-- 2, where no outputs are lent
unfoldable pub inputs_fit : (count : ℕ) → (at rs ps : List ℕ) → Bool
inputs_fit count at rs ps =
    eqb (length at) (attribute_words * count) && eqb (length rs) (register_words * count) && eqb (length ps) (port_words * count)

-- Order for `why`: "those of a clock, in its order; a slice at or above the count is 13, after 2"
unfoldable pub why_answer : (count : ℕ) → (at rs ps : List ℕ) → (k : ℕ) → Answer
why_answer count at rs ps k =
    unless (count_fits count) (Err BadCount) (unless (inputs_fit count at rs ps) (Err BadLength) (unless (ltb k count) (Err BadSlice) (settings count at rs ps)))
