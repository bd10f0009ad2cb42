-- Bytes put one after the other. Assumes nothing.
use Rattle.std.proofs.Common.{◌≡◌, ℕ, ◌+◌, ◌<◌, ◌≤◌, List, [], ◌∷◌, ◌++◌, length, take, drop, set, sym, refl, ap, ◌∙◌, append_assoc, append-nil, ◌-◌, take_all, add-zero, zero-add, add-one, arith, length-append, length-drop, take-append-drop, length-take, drop-drop, take_at}
use lib.Seq.{set_split, drop-append-add, drop-length}
use borrow.Rule.Slice.PartMut.{put_mid}
use Rattle.text.specs.Printed.{pasted, Put}

pub put_none : (at : ℕ) (out : List ℕ) → Put at [] out at out
put_none at out = record { ends = omega arith; bytes = rw add-zero (sym (take-append-drop at out)) }

pub put_one : (at b : ℕ) (out : List ℕ) → at < length out → Put at (b ∷ []) out (at + 1) (set out at b)
put_one at b out h = record { ends = refl; bytes = rw (add-one, set_split out at b h) }

pub pasted_length : (at : ℕ) (bs out : List ℕ) → at + length bs ≤ length out → length (pasted at bs out) ≡ length out
pasted_length at bs out h = simp (length-append, length-take, length-drop) (omega arith)

pasted_more : (at : ℕ) (bs cs out : List ℕ) → at + length bs ≤ length out
    → pasted (at + length bs) cs (pasted at bs out) ≡ pasted at (bs ++ cs) out
pasted_more at bs cs out h =
    let e : at + length bs + length cs ≡ at + length (bs ++ cs) = omega (arith, length-append bs cs) in
    let p = take at out ++ bs in
    let d = drop (at + length bs) out in
    let l : length p ≡ at + length bs = simp (length-append, length-take) (omega arith) in
    let front : pasted at bs out ≡ p ++ d = sym (append_assoc (take at out) bs d) in
    let t : take (at + length bs) (p ++ d) ≡ p = take_at p d (at + length bs) l in
    let r : drop (at + length bs + length cs) (p ++ d) ≡ drop (at + length (bs ++ cs)) out =
    ap (λ (k : ℕ). drop (k + length cs) (p ++ d)) (sym l)
    ∙ drop-append-add p d (length cs)
    ∙ drop-drop (length cs) (at + length bs) out
    ∙ ap (λ (k : ℕ). drop k out) e in
    rw (front, t, r, append_assoc, append_assoc)

pub put_more : {at : ℕ} {bs out : List ℕ} {end : ℕ} {out' cs : List ℕ} {r : ℕ} {out'' : List ℕ}
    → Put at bs out end out' → Put end cs out' r out'' → at + length bs ≤ length out → Put at (bs ++ cs) out r out''
put_more {at} {bs} {out} {end} {out'} {cs} {r} {out''} p q h =
    record {
      ends = rw length-append (omega (arith, p.ends, q.ends));
      bytes = q.bytes ∙ rw (p.ends, p.bytes) (pasted_more at bs cs out h);
    }

pub put_length : {at : ℕ} {bs out : List ℕ} {end : ℕ} {out' : List ℕ}
    → Put at bs out end out' → at + length bs ≤ length out → length out' ≡ length out
put_length {at} {bs} {out} p h = ap length p.bytes ∙ pasted_length at bs out h

-- what is put in the part from a place on stands from that place on
pub part_whole : (at : ℕ) (out : List ℕ) → take (length out - at) (drop at out) ≡ drop at out
part_whole at out = take_all (length out - at) (drop at out) (rw length-drop (omega arith))

module _ (at : ℕ) (out : List ℕ) (within : at ≤ length out) where
  pub part_room : {n : ℕ} → at + n ≤ length out → n ≤ length (take (length out - at) (drop at out))
  part_room h = rw (part_whole, length-drop) (omega arith)

  pub part_put : {bs : List ℕ} {n : ℕ} {part : List ℕ} → Put 0 bs (take (length out - at) (drop at out)) n part
      → Put at bs out (at + n) (put_mid at (length out - at) out part)
  part_put {bs} {n} {part} p =
      let q : part ≡ bs ++ drop (length bs) (drop at out) = rw (part_whole, zero-add) at p.bytes in
      let whole : at + (length out - at) ≡ length out = omega arith in
      let none : drop (length out - at) (drop at out) ≡ [] = rw (drop-drop, whole) (drop-length out) in
      record { ends = ap (λ (k : ℕ). at + k) (rw zero-add at p.ends); bytes = rw (none, append-nil part, q, drop-drop (length bs) at out) }
