-- The bytes of a piece that join a line. Assumes nothing.
use mathlib.Core.Path.{◌≡◌, refl, sym, ap, ap₂, ◌∙◌}
use mathlib.Core.Bool.{Bool, true, false, not, cond, ◌||◌}
use mathlib.Core.List.{List, [], ◌∷◌, ◌++◌}
use Prim.Native.Nat.{ℕ, zero, suc, ◌+◌, ◌-◌, ◌<◌, ◌≤◌, min}
use native.Mathlib.Nat.{min-le_left, min-le_right}
use native.Mathlib.Omega.{arith}
use lib.Dec.{eqb, ltb}
use lib.ListN.{length, take, drop, set, get_or, length-set, length-drop}
use lib.Seq.{length-take-le, take-length, drop-drop}
use Rattle.std.specs.List.{position, position_or_len}
use Rattle.std.proofs.lemmas.Bool.{eqb-true, eqb-false}
use Rattle.std.proofs.lemmas.List.{get_or-take, get_or-drop}
use Rattle.std.proofs.lemmas.List.Sums.{prefix_len-le-length, fails_before_first, passes_at_first}
use Rattle.std.specs.Option.{unwrap_or}
use borrow.Author.Tests.{eq-eqb, ne_eqb, ltb-true, ltb-false}
use Rattle.text.specs.Bytes.{newline, most_bytes}
use Rattle.text.specs.Printed.{pasted}
use Rattle.text.proofs.Paste.{put_none, put_one, put_more}
use Rattle.player.specs.declared.Player.{Player}
use Rattle.listing.specs.Steps.{longer}
use Rattle.player.specs.Numbers.{working}
use Rattle.listing.specs.Parts.{Gathered, one_more_byte, gathering, Joined, Reaches}

-- n bytes of a text join a line: none of them is a newline, and the line has room
record Joins (held : ℕ) (text : List ℕ) (n : ℕ) : Type 0 where
  pub within : n ≤ length text
  pub room : held + n ≤ most_bytes
  pub others : (i : ℕ) → i < n → get_or text i 0 ≡ newline → ⊥
  -- the byte that they end at is a newline, or one too many
  pub ends : n < length text → (get_or text n 0 ≡ newline → ⊥) → held + n ≡ most_bytes

-- what joins byte after byte is what is copied at once
gathered_text : (held n : ℕ) (text line : List ℕ) → length line ≡ most_bytes → Joins held text n
    → gathering held line text ≡ record { count = n; line = pasted held (take n text) line }
gathered_text held zero [] line l j = ap (λ (bs : List ℕ). record { count = 0; line = bs }) (put_none held line).bytes
gathered_text held (suc n) [] line l j = let none : suc n ≤ 0 = j.within in let z : ⊥ = omega arith in absurd z
gathered_text held zero (b ∷ bs) line l j = go (eqb b newline) refl ∙ ap (λ (xs : List ℕ). record { count = 0; line = xs }) (put_none held line).bytes
  where
    go : (t : Bool) → eqb b newline ≡ t
        → cond (t || eqb held most_bytes) (record { count = 0; line = line }) (one_more_byte (gathering (held + 1) (set line held b) bs))
        ≡ record { count = 0; line = line }
    go true h = refl
    go false h = rw (eq-eqb held most_bytes (omega (arith, j.ends (omega arith) (eqb-false b newline h))))
gathered_text held (suc n) (b ∷ bs) line l j =
    let other : eqb b newline ≡ false = ne_eqb b newline (j.others 0 (omega arith)) in
    let free : held < most_bytes = omega (arith, j.room) in
    let room : eqb held most_bytes ≡ false = ne_eqb held most_bytes (λ e. omega (arith, free, e)) in
    let more : Joins (held + 1) bs n = record {
      within = omega (arith, j.within);
      room = omega (arith, j.room);
      others = λ i h. j.others (suc i) (omega arith);
      ends = λ h k. omega (arith, j.ends (omega arith) k);
    } in
    let bytes =
    (put_more (put_one held b line (omega (arith, l, free))) (record { ends = refl; bytes = refl }) (omega (arith, l, free))).bytes in
    rw (other, room)
    (ap one_more_byte (gathered_text (held + 1) n bs (set line held b) (rw length-set l) more)
    ∙ ap (λ (xs : List ℕ). record { count = suc n; line = xs }) bytes)

abbrev pub ends_line : (b : ℕ) → Bool
ends_line b = eqb b newline

-- those before a newline, as far as the line has room
joins : (held most n : ℕ) (text : List ℕ) → held ≤ most_bytes → most ≡ min (length text) (most_bytes - held)
    → n ≡ unwrap_or (position ends_line (take most text)) most → Joins held text n
joins held most n text short m f =
    record {
      within = omega (arith, first, bound, few);
      room = omega (arith, first, bound, m, min-le_right (length text) (most_bytes - held));
      others = λ i h. eqb-false (get_or text i 0) newline (byte i (omega (arith, first, bound, h)) (fails_before_first ends_line part i 0 (omega (arith, first, h))));
      ends = λ h k. ending h k (ltb n most) refl;
    }
  where
    part : List ℕ
    part = take most text

    few : most ≤ length text
    few = omega (arith, m, min-le_left (length text) (most_bytes - held))

    long : length part ≡ most
    long = length-take-le most text few

    bound : position_or_len ends_line part ≤ most
    bound = omega (arith, prefix_len-le-length (λ b. not (ends_line b)) part, long)

    first : n ≡ position_or_len ends_line part
    first = go (ltb (position_or_len ends_line part) (length part)) refl
      where
        go : (t : Bool) → ltb (position_or_len ends_line part) (length part) ≡ t → n ≡ position_or_len ends_line part
        go true h = rw h at f
        go false h =
            let all : n ≡ most = rw h at f in
            let whole = ltb-false (position_or_len ends_line part) (length part) h in
            omega (arith, all, whole, long, bound)

    byte : (i : ℕ) → i < most → {t : Bool} → ends_line (get_or part i 0) ≡ t → ends_line (get_or text i 0) ≡ t
    byte i h e = ap ends_line (sym (get_or-take most text i 0 h)) ∙ e

    at_first : n < most → ends_line (get_or text n 0) ≡ true
    at_first h =
        byte n h (ap (λ (k : ℕ). ends_line (get_or part k 0)) first ∙ passes_at_first ends_line part 0 (omega (arith, first, h, long)))

    ending : n < length text → (get_or text n 0 ≡ newline → ⊥) → (t : Bool) → ltb n most ≡ t → held + n ≡ most_bytes
    ending h k true e = absurd (k (eqb-true (get_or text n 0) newline (at_first (ltb-true n most e))))
    ending h k false e = let all : most ≤ n = ltb-false n most e in omega (arith, m, short, first, bound)

-- what is lent of the piece
abbrev pub rest_of : (piece : List ℕ) (from : ℕ) → List ℕ
rest_of piece from = take (length piece - from) (drop from piece)

rest_is : (piece : List ℕ) (from : ℕ) → rest_of piece from ≡ drop from piece
rest_is piece from = ap (λ (k : ℕ). take k (drop from piece)) (sym (length-drop from piece)) ∙ take-length (drop from piece)

pub joined_at_once : (piece : List ℕ) (from held : ℕ) (line : List ℕ) → from ≤ length piece → held ≤ most_bytes → length line ≡ most_bytes
    → (most : ℕ) → most ≡ min (length (rest_of piece from)) (most_bytes - held)
    → (n : ℕ) → n ≡ unwrap_or (position ends_line (take most (rest_of piece from))) most → (got : List ℕ) → got ≡ take n (rest_of piece from)
    → Joined piece from held line n (take held line ++ (got ++ drop (held + n - held) (drop held line)))
joined_at_once piece from held line start short l most m n f got g =
    let text = drop from piece in
    let long : length text ≡ length piece - from = length-drop from piece in
    let e : rest_of piece from ≡ text = rest_is piece from in
    let j : Joins held text n =
    joins held most n text short (m ∙ ap (λ (bs : List ℕ). min (length bs) (most_bytes - held)) e)
    (f ∙ ap (λ (bs : List ℕ). unwrap_or (position ends_line (take most bs)) most) e) in
    let all = gathered_text held n text line l j in
    let gone : held + n - held ≡ length (take n text) = omega (arith, length-take-le n text j.within) in
    let bytes : take held line ++ (got ++ drop (held + n - held) (drop held line)) ≡ pasted held (take n text) line =
    ap₂ (λ (xs ys : List ℕ). take held line ++ (xs ++ ys)) (g ∙ ap (take n) e)
    (drop-drop (held + n - held) held line ∙ ap (λ (k : ℕ). drop (held + k) line) gone) in
    record {
      count = sym (ap (λ (x : Gathered). x.count) all);
      bytes = bytes ∙ sym (ap (λ (x : Gathered). x.line) all);
      within = omega (arith, j.within, long, start);
      room = j.room;
      ends = λ more other. j.ends (omega (arith, more, long)) (λ z. other (sym (get_or-drop from piece n 0) ∙ z));
    }

-- ---- what a stretch of bytes reaches

module _ (q : Player) (piece : List ℕ) (from : ℕ) (line : List ℕ) where
  pub stopped_reach : working q.phase ≡ false → from ≤ length piece → q.held ≤ most_bytes
      → Reaches q piece from line (record { player = q; used = length piece }) line
  stopped_reach stopped start short =
      let never : length piece < length piece → ⊥ = λ h. omega arith in
      record {
        player = rw stopped;
        used = rw stopped (omega (arith, length-drop from piece));
        bytes = rw stopped;
        within = omega arith;
        held = short;
        works = λ h. absurd (never h);
        full = λ h other. absurd (never h);
      }

  pub joined_reach : working q.phase ≡ true → (more : ℕ) (line' : List ℕ) → Joined piece from q.held line more line' → (q' : Player) → q' ≡ longer more q
      → Reaches q piece from line (record { player = q'; used = from + more }) line'
  joined_reach works more line' d q' e =
      let held : q'.held ≡ q.held + more = ap (λ (x : Player). x.held) e in
      record {
        player = rw works (e ∙ ap (λ (n : ℕ). longer n q) d.count);
        used = rw works (ap (λ (n : ℕ). from + n) d.count);
        bytes = rw works d.bytes;
        within = d.within;
        held = omega (arith, held, d.room);
        works = λ h. ap (λ (x : Player). working x.phase) e ∙ works;
        full = λ h other. held ∙ d.ends h other;
      }
