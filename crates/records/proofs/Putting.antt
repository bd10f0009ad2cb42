-- A record's words put in a stretch, one after the other: where there is room for each and no more, they are the stretch. Assumes nothing.
use Prim.Native.Nat.{ℕ, zero, suc}
use mathlib.Core.Path.{◌≡◌, refl, sym, ◌∙◌, ap, subst⁻¹}
use mathlib.Core.List.{List, [], ◌∷◌}
use native.Mathlib.Omega.{arith}
use lib.ListN.{length, get_or, set}
use contract.Lifetimes.{Lfts}
use denote.Triple.Clauses.{AtExit}
use borrow.Fn.Kinds.{Dens, res_t, ended_of}
use Rattle.lent.proofs.Laws.{stored_all}
use Rattle.records.specs.declared.Registers.{Registers}
use Rattle.records.specs.Records.{register_words, registers_words}
use Rattle.records.proofs.Fits.{each}
use Rattle.records.proofs.Registers.put.Kinds as put_kinds
use Rattle.records.proofs.Registers.put.Reads as put_reads

-- a list is what stands at each of its places
pub spread : (n : ℕ) (ws : List ℕ) → length ws ≡ n → ws ≡ each n (λ i. get_or ws i 0)
spread zero [] e = refl
spread (suc n) [] e = absurd (omega arith)
spread zero (w ∷ ws) e = absurd (omega arith)
spread (suc n) (w ∷ ws) e = ap (λ (xs : List ℕ). w ∷ xs) (spread n ws (omega arith))

-- put from the first to the last, and from the last to the first
abbrev pub forward : List ℕ → Registers → List ℕ
forward ws r =
    set (set (set (set (set (set (set (set (set (set (set (set (set (set (set (set (set (set (set ws 0 r.a1) 1 r.a2) 2 r.b1) 3 r.b2) 4 r.c) 5 r.d) 6 r.ad) 7 r.m) 8 r.p) 9 r.opmode) 10 r.alumode) 11 r.inmode) 12 r.carryinsel) 13 r.carryin) 14 r.pd) 15 r.pbd) 16 r.pdpast) 17 r.pbdpast) 18 r.carry

abbrev pub backward : List ℕ → Registers → List ℕ
backward ws r =
    set (set (set (set (set (set (set (set (set (set (set (set (set (set (set (set (set (set (set ws 18 r.carry) 17 r.pbdpast) 16 r.pdpast) 15 r.pbd) 14 r.pd) 13 r.carryin) 12 r.carryinsel) 11 r.inmode) 10 r.alumode) 9 r.opmode) 8 r.p) 7 r.m) 6 r.ad) 5 r.d) 4 r.c) 3 r.b2) 2 r.b1) 1 r.a2) 0 r.a1

pub forward_all : (ws : List ℕ) (r : Registers) → length ws ≡ register_words → forward ws r ≡ registers_words r
forward_all ws r e = subst⁻¹ (λ xs. forward xs r ≡ registers_words r) (spread register_words ws e) refl

pub backward_all : (ws : List ℕ) (r : Registers) → length ws ≡ register_words → backward ws r ≡ registers_words r
backward_all ws r e = subst⁻¹ (λ xs. backward xs r ≡ registers_words r) (spread register_words ws e) refl

-- what every call of `put` leaves of as many words is what the words put one after the other leave, from either end
pub put_leaves : (κs : Lfts 1) (args : Dens κs put_kinds.ps) (r : (res_t put_kinds.r κs).Denot) (x : AtExit (ended_of 1 put_kinds.ps put_kinds.r) κs)
    → put_reads.Post κs args r x → length args.1.0.now ≡ register_words
    → (x.1.0.now ≡ forward args.1.0.now args.0) × (x.1.0.now ≡ backward args.1.0.now args.0)
put_leaves κs args r x a long =
    let words = args.1.0.now in
    let whole = a ∙ stored_all words (registers_words args.0) long in
    (whole ∙ sym (forward_all words args.0 long), whole ∙ sym (backward_all words args.0 long))
