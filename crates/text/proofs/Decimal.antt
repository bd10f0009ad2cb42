-- Laws of what is printed: its lengths, and how it is put digit by digit and field by field. Assumes nothing.
use Rattle.std.proofs.Common.{decimal, ◌≡◌, ℕ, zero, suc, ◌+◌, ◌-◌, ◌*◌, ◌/◌, ◌%◌, ◌^◌, ◌<◌, ◌≤◌, Bool, true, false, cond, ltb, List, [], ◌∷◌, ◌++◌, length, get_or, take, set, sym, refl, ap, ◌∙◌, append_assoc, append-nil, add-one, arith, drop, drop-drop, length-append, length-set, length-take-le, take-suc, le-ltb, lt-ltb, le-leb}
use Rattle.text.specs.Bytes.{tab, newline, digit0, field_room}
use Rattle.text.specs.Printed.{spelled, decimal_of, field_of, fields_of, printed, Put, line_within}
use Rattle.std.proofs.lemmas.Fmt.{AppendsLastDigit, decimal_from_appends, length-decimal-le, decimal_digit}
use borrow.Rule.Slice.PartMut.{put_mid}
use Rattle.text.proofs.Paste.{put_more, put_one, put_length, part_room, part_put}

-- the digits are those that std prints
abbrev spelled_in : (digits n : ℕ) → List ℕ
spelled_in zero n = []
spelled_in (suc f) n = spelled f n

spelled_appends : AppendsLastDigit spelled_in
spelled_appends = record { one = one; more = more }
  where
    one : (f n : ℕ) → n < 10 → spelled f n ≡ (digit0 + n) ∷ []
    one zero n h =
        let e : n % 10 ≡ n = omega arith in
        rw e
    one (suc f) n h = rw (lt-ltb n 10 h)

    more : (f n : ℕ) → 10 ≤ n → spelled f n ≡ spelled_in f (n / 10) ++ ((digit0 + n % 10) ∷ [])
    more zero n h = refl
    more (suc f) n h = rw (le-ltb n 10 h)

decimal_same : (n : ℕ) → n < 2 ^ 64 → decimal_of n ≡ decimal n
unfolding decimal_of
decimal_same n h = decimal_from_appends spelled_in spelled_appends 20 n h (length-decimal-le 20 n (omega arith) (omega arith) h)

-- lengths
spelled_length : (f n : ℕ) → length (spelled f n) ≤ f + 1
spelled_length zero n = omega arith
spelled_length (suc f) n = go (ltb n 10) (spelled_length f (n / 10))
  where
    go : (b : Bool) → length (spelled f (n / 10)) ≤ f + 1
        → length (cond b ((digit0 + n) ∷ []) (spelled f (n / 10) ++ ((digit0 + n % 10) ∷ []))) ≤ suc f + 1
    go true h = omega arith
    go false h = rw length-append (omega arith)

pub decimal_length : (n : ℕ) → length (decimal_of n) ≤ 20
unfolding decimal_of
decimal_length n = omega (arith, spelled_length 19 n)

field_length : (n : ℕ) → length (field_of n) ≤ field_room
field_length n = omega (arith, decimal_length n)

fields_length : (ns : List ℕ) → length (fields_of ns) ≤ field_room * length ns
fields_length [] = omega arith
fields_length (n ∷ ns) = rw (length-append (field_of n) (fields_of ns)) (omega (arith, field_length n, fields_length ns))

pub printed_length : (letter : ℕ) (ns : List ℕ) → length (printed letter ns) ≤ field_room * length ns + 2
unfolding printed
printed_length letter ns = rw (length-append (fields_of ns) (newline ∷ [])) (omega (arith, fields_length ns))

-- a line is printed where there is room for it, and else nothing is
module _ (letter : ℕ) (ns : List ℕ) (at : ℕ) (out : List ℕ) where
  pub line_fits : field_room * (length ns + 1) + at ≤ length out → line_within letter ns at out ≡ printed letter ns
  line_fits h = rw (le-leb (field_room * (length ns + 1)) (length out - at) (omega arith))

-- what `field` leaves
module _ (n : ℕ) (out : List ℕ) (small : n < 2 ^ 64) (room : field_room ≤ length out) where
  field_put : {end : ℕ} {out' : List ℕ} → Put 1 (decimal_of n) (set out 0 tab) end out' → Put 0 (field_of n) out end out'
  field_put p = put_more (put_one 0 tab out (omega arith)) p (omega arith)

  pub one_digit : n < 10 → Put 0 (field_of n) out 2 (set (set out 0 tab) 1 (digit0 + n))
  one_digit h =
      let e : decimal_of n ≡ (digit0 + n) ∷ [] = decimal_same n small ∙ decimal_digit n h in
      field_put (rw e (put_one 1 (digit0 + n) (set out 0 tab) (simp length-set (omega arith))))

  pub more_digits : (ds put : List ℕ) → ds ≡ decimal n → put ≡ ds
      → Put 0 (field_of n) out (1 + length ds) (put_mid 1 (1 + length ds - 1) (set out 0 tab) put)
  more_digits ds put e copied =
      let same : decimal_of n ≡ ds = decimal_same n small ∙ sym e in
      let k : 1 + length ds - 1 ≡ length ds = omega arith in
      field_put (record { ends = ap (λ (bs : List ℕ). 1 + length bs) (sym same); bytes = rw (copied, same, k, drop-drop (length ds) 1 (set out 0 tab)) })

-- a turn of `fields`
fields_more : (ns ms : List ℕ) → fields_of (ns ++ ms) ≡ fields_of ns ++ fields_of ms
fields_more [] ms = refl
fields_more (n ∷ ns) ms = rw (fields_more ns ms) (sym (append_assoc (field_of n) (fields_of ns) (fields_of ms)))

fields_next : (i : ℕ) (ns : List ℕ) → i < length ns → fields_of (take (i + 1) ns) ≡ fields_of (take i ns) ++ field_of (get_or ns i 0)
fields_next i ns h =
    rw (add-one, take-suc ns i 0, fields_more (take i ns) (get_or ns i 0 ∷ []))
    (ap (λ (l : List ℕ). fields_of (take i ns) ++ l) (append-nil (field_of (get_or ns i 0))))

module _ (i : ℕ) (ns : List ℕ) {end : ℕ} {out₀ out : List ℕ}
    (so_far : Put 0 (fields_of (take i ns)) out₀ end out) (turn : i < length ns) (room : field_room * length ns ≤ length out₀) where
  so_long : length (fields_of (take i ns)) ≤ field_room * i
  so_long = omega (arith, fields_length (take i ns), length-take-le i ns (omega arith))

  pub next_room : end + field_room ≤ length out
  next_room = omega (arith, so_long, put_length so_far (omega (arith, so_long)), so_far.ends)

  pub one_field : {r : ℕ} {out' : List ℕ} → Put end (field_of (get_or ns i 0)) out r out' → Put 0 (fields_of (take (i + 1) ns)) out₀ r out'
  one_field q = rw (fields_next i ns turn) (put_more so_far q (omega (arith, so_long)))

-- what `line` leaves
module _ (letter : ℕ) (ns ms out₀ : List ℕ) (room : field_room * (length ns + length ms) + 2 ≤ length out₀) where
  abbrev lettered : List ℕ
  lettered = set out₀ 0 letter

  module _ {n : ℕ} {part : List ℕ} (p : Put 0 (fields_of ns) (take (length lettered - 1) (drop 1 lettered)) n part) where
    abbrev out : List ℕ
    out = put_mid 1 (length lettered - 1) lettered part

    front_put : Put 0 (letter ∷ fields_of ns) out₀ (1 + n) out
    front_put = put_more (put_one 0 letter out₀ (omega arith)) (part_put 1 lettered (simp length-set (omega arith)) p) (omega arith)

    front_room : 1 + n + (field_room * length ms + 1) ≤ length out
    front_room = omega (arith, front_put.ends, fields_length ns, put_length front_put (omega (arith, fields_length ns)))

    pub more_room : field_room * length ms ≤ length (take (length out - (1 + n)) (drop (1 + n) out))
    more_room = part_room (1 + n) out (omega (arith, front_room)) (omega (arith, front_room))

    module _ {m : ℕ} {part' : List ℕ} (q : Put 0 (fields_of ms) (take (length out - (1 + n)) (drop (1 + n) out)) m part') where
      abbrev out' : List ℕ
      out' = put_mid (1 + n) (length out - (1 + n)) out part'

      both_put : Put 0 (letter ∷ fields_of (ns ++ ms)) out₀ (1 + n + m) out'
      both_put = rw (fields_more ns ms) (put_more front_put (part_put (1 + n) out (omega (arith, front_room)) q) (omega (arith, fields_length ns)))

      both_length : length (fields_of (ns ++ ms)) ≤ field_room * (length ns + length ms)
      both_length = rw (← length-append ns ms) (fields_length (ns ++ ms))

      pub newline_room : 1 + n + m < length out'
      newline_room = omega (arith, both_put.ends, both_length, put_length both_put (omega (arith, both_length)))

      pub whole_line : Put 0 (printed letter (ns ++ ms)) out₀ (1 + n + m + 1) (set out' (1 + n + m) newline)
      unfolding printed
      whole_line = put_more both_put (put_one (1 + n + m) newline out' newline_room) (omega (arith, both_length))
