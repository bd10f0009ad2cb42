-- A piece that is played byte after byte: the outcome so far, and what the rest leads to. Assumes nothing.
use mathlib.Core.Path.{◌≡◌, refl, sym, ap, ap₂, ◌∙◌}
use mathlib.Core.Bool.{Bool, true, false, cond, ◌||◌}
use mathlib.Core.List.{List, [], ◌∷◌, ◌++◌, append_assoc, append-nil}
use Prim.Native.Nat.{ℕ, suc, ◌+◌, ◌-◌, ◌<◌, ◌≤◌}
use native.Mathlib.Nat.{add-zero, zero-add}
use native.Mathlib.Numerals.{add-one, unary_clauses}
use native.Mathlib.Omega.{arith}
use lib.Dec.{eqb}
use lib.ListN.{length, take, drop, set, get_or, length-append, length-take, take-append-drop}
use lib.Seq.{drop-cons, drop-length, drop-drop, take_at, drop-append-add, length-take-le}
use borrow.Author.Tests.{le-leb, lt-leb}
use Rattle.text.specs.Bytes.{newline, most_bytes}
use Rattle.text.specs.Printed.{pasted, Put}
use Rattle.event.specs.declared.Event.TheVariants.{Nothing}
use Rattle.listing.specs.Limits.{clock_room}
use Rattle.player.specs.Numbers.{working}
use Rattle.listing.specs.Listing.{Play, Turn, turn_bytes, byte_turn}
use Rattle.listing.specs.Calls.{Outcome, nothing, further, played}
use Rattle.listing.specs.Parts.{Gathered, one_more_byte, gathering, Stretch, joining, stretch_of}

-- an outcome that follows on used bytes, of which says was printed
abbrev pub following : (used : ℕ) → (says : List ℕ) → Outcome → Outcome
following used says o = record { used = used + o.used; play = o.play; says = says ++ o.says }

follow_none : (o : Outcome) → following 0 [] o ≡ o
follow_none o = ap (λ (k : ℕ). record { used = k; play = o.play; says = o.says }) (zero-add o.used)

-- the front of what was put, and what is left behind it
module _ (at : ℕ) (bs out : List ℕ) (room : at + length bs ≤ length out) where
  front : pasted at bs out ≡ (take at out ++ bs) ++ drop (at + length bs) out
  front = sym (append_assoc (take at out) bs (drop (at + length bs) out))

  long : length (take at out ++ bs) ≡ at + length bs
  long = simp (length-append, length-take) (omega arith)

  take_pasted : take (at + length bs) (pasted at bs out) ≡ take at out ++ bs
  take_pasted = rw front (take_at (take at out ++ bs) (drop (at + length bs) out) (at + length bs) long)

  drop_pasted : drop (at + length bs) (pasted at bs out) ≡ drop (at + length bs) out
  drop_pasted =
      rw front
      (ap (λ (k : ℕ). drop k ((take at out ++ bs) ++ drop (at + length bs) out)) (sym (add-zero (at + length bs)) ∙ ap (λ (k : ℕ). k + 0) (sym long))
      ∙ drop-append-add (take at out ++ bs) (drop (at + length bs) out) 0)

-- ---- a stretch of bytes without a newline

-- what is known once a stretch was taken
abbrev pub reached : Stretch → Play → Play
reached x p = record {
  player = x.player;
  attributes = p.attributes;
  registers = p.registers;
  ports = p.ports;
  outputs = p.outputs;
  line = x.line;
}

-- and once bytes joined the line
abbrev pub stretched : Gathered → Play → Play
stretched g p = reached (joining p.player g) p

-- so many bytes of the line are known
abbrev holding : Play → (held : ℕ) → (line : List ℕ) → Play
holding p held line = record {
  player = record {
    phase = p.player.phase;
    count = p.player.count;
    given = p.player.given;
    clocks = p.player.clocks;
    lines = p.player.lines;
    held = held;
    shows = p.player.shows;
  };
  attributes = p.attributes;
  registers = p.registers;
  ports = p.ports;
  outputs = p.outputs;
  line = line;
}

stretch_none : (p : Play) → stretched (record { count = 0; line = p.line }) p ≡ p
stretch_none p = ap (λ (k : ℕ). holding p k p.line) (add-zero p.player.held)

stretch_zero : (room : ℕ) (p : Play) (text : List ℕ) → played room p text ≡ following 0 [] (played room (stretched (record { count = 0; line = p.line }) p) text)
stretch_zero room p text = sym (follow_none (played room p text)) ∙ ap (λ (x : Play). following 0 [] (played room x text)) (sym (stretch_none p))

-- a byte of a line, where it has room for it
abbrev pub with_byte : Play → (b : ℕ) → Play
with_byte p b = stretched (record { count = 1; line = set p.line p.player.held b }) p

pub join_turn : (p : Play) (b : ℕ) → working p.player.phase ≡ true → eqb b newline ≡ false → eqb p.player.held most_bytes ≡ false
    → byte_turn p b ≡ record { play = with_byte p b; event = Nothing }
unfolding byte_turn
join_turn p b works other room = rw (works, other, room)

join_stretch : (p : Play) (b : ℕ) (g : Gathered) → stretched g (with_byte p b) ≡ stretched (one_more_byte g) p
join_stretch p b g =
    let k : p.player.held + 1 + g.count ≡ p.player.held + suc g.count = omega arith in
    ap (λ (held : ℕ). holding p held g.line) k

-- bytes that are gathered are what byte after byte leaves, and print nothing
stretch_played : (room : ℕ) (p : Play) (text : List ℕ) → clock_room ≤ room → working p.player.phase ≡ true
    → (let g = gathering p.player.held p.line text in
    played room p text ≡ following g.count [] (played room (stretched g p) (drop g.count text)))
stretch_played room p [] h works = stretch_zero room p []
stretch_played room p (b ∷ bs) h works =
    go (eqb b newline) (eqb p.player.held most_bytes) refl refl (stretch_played room (with_byte p b) bs h works)
  where
    after : (o : Outcome) (n : ℕ) → further (record { play = with_byte p b; event = Nothing }) (following n [] o) ≡ following (suc n) [] o
    after o n =
        let k : suc (n + o.used) ≡ suc n + o.used = omega arith in
        ap (λ (used : ℕ). record { used = used; play = o.play; says = o.says }) k

    go : (a c : Bool) → eqb b newline ≡ a → eqb p.player.held most_bytes ≡ c
        → (let more = gathering (p.player.held + 1) (set p.line p.player.held b) bs in
        played room (with_byte p b) bs ≡ following more.count [] (played room (stretched more (with_byte p b)) (drop more.count bs))
        → (let g = cond (a || c) (record { count = 0; line = p.line }) (one_more_byte more) in
        played room p (b ∷ bs) ≡ following g.count [] (played room (stretched g p) (drop g.count (b ∷ bs)))))
    go true c e f rest = stretch_zero room p (b ∷ bs)
    go false true e f rest = stretch_zero room p (b ∷ bs)
    go false false e f rest =
        let more = gathering (p.player.held + 1) (set p.line p.player.held b) bs in
        let all : room - 0 ≡ room = omega arith in
        let one : played room p (b ∷ bs) ≡ further (record { play = with_byte p b; event = Nothing }) (played room (with_byte p b) bs) =
        rw (le-leb clock_room room h, join_turn p b works e f, all) in
        one
        ∙ ap (further (record { play = with_byte p b; event = Nothing })) rest
        ∙ after (played room (stretched more (with_byte p b)) (drop more.count bs)) more.count
        ∙ ap (λ (x : Play). following (suc more.count) [] (played room x (drop more.count bs))) (join_stretch p b more)

-- after a refusal a byte does nothing, and prints nothing
pub stopped_turn : (p : Play) (b : ℕ) → working p.player.phase ≡ false → byte_turn p b ≡ record { play = p; event = Nothing }
unfolding byte_turn
stopped_turn p b stopped = rw stopped

stopped_played : (room : ℕ) (p : Play) (text : List ℕ) → clock_room ≤ room → working p.player.phase ≡ false
    → played room p text ≡ record { used = length text; play = p; says = [] }
stopped_played room p [] h stopped = refl
stopped_played room p (b ∷ bs) h stopped =
    let all : room - 0 ≡ room = omega arith in
    let one : played room p (b ∷ bs) ≡ further (record { play = p; event = Nothing }) (played room p bs) =
    rw (le-leb clock_room room h, stopped_turn p b stopped, all) in
    one ∙ ap (further (record { play = p; event = Nothing })) (stopped_played room p bs h stopped)

-- a stretch of bytes is what byte after byte leaves, and prints nothing
pub reach_played : (room : ℕ) (p : Play) (text : List ℕ) → clock_room ≤ room
    → (let x = stretch_of p.player p.line text in
    played room p text ≡ following x.count [] (played room (reached x p) (drop x.count text)))
reach_played room p text h = go (working p.player.phase) refl
  where
    go : (t : Bool) → working p.player.phase ≡ t
        → (let x = cond t (joining p.player (gathering p.player.held p.line text)) (record { player = p.player; count = length text; line = p.line }) in
        played room p text ≡ following x.count [] (played room (reached x p) (drop x.count text)))
    go true works = stretch_played room p text h works
    go false stopped =
        stopped_played room p text h stopped
        ∙ ap (λ (n : ℕ). record { used = n; play = p; says = [] }) (sym (add-zero (length text)))
        ∙ ap (λ (rest : List ℕ). following (length text) [] (played room p rest)) (sym (drop-length text))

-- ---- the outcome so far

-- so far: used bytes of the piece are taken, and made bytes are printed
pub record SoFar (p₀ : Play) (piece out₀ : List ℕ) (p : Play) (used made : ℕ) (out : List ℕ) : Type 0 where
  pub within : used ≤ length piece
  pub room : made ≤ length out
  pub long : length out ≡ length out₀
  pub rest : drop made out ≡ drop made out₀
  pub whole : following used (take made out) (played (length out₀ - made) p (drop used piece)) ≡ played (length out₀) p₀ piece

pub none_yet : (p : Play) (piece out : List ℕ) → SoFar p piece out p 0 0 out
none_yet p piece out =
    record {
      within = omega arith;
      room = omega arith;
      long = refl;
      rest = refl;
      whole = simp unary_clauses (follow_none (played (length out) p piece));
    }

module _ (p₀ : Play) (piece out₀ : List ℕ) (p : Play) (used made : ℕ) (out : List ℕ) (s : SoFar p₀ piece out₀ p used made out) where
  -- one byte more
  pub one_byte : used < length piece → clock_room ≤ length out - made → (made' : ℕ) (out' : List ℕ)
      → length (turn_bytes (byte_turn p (get_or piece used 0))) ≤ clock_room
      → Put made (turn_bytes (byte_turn p (get_or piece used 0))) out made' out' → length out' ≡ length out
      → SoFar p₀ piece out₀ (byte_turn p (get_or piece used 0)).play (used + 1) made' out'
  one_byte h room made' out' short put kept =
      let t = byte_turn p (get_or piece used 0) in
      let fits : made + length (turn_bytes t) ≤ length out = omega (arith, s.room) in
      let e : made' ≡ made + length (turn_bytes t) = put.ends in
      let bytes : take made' out' ≡ take made out ++ turn_bytes t = rw (e, put.bytes) (take_pasted made (turn_bytes t) out fits) in
      let later : drop (made + length (turn_bytes t)) out ≡ drop (made + length (turn_bytes t)) out₀ =
      sym (drop-drop (length (turn_bytes t)) made out) ∙ ap (drop (length (turn_bytes t))) s.rest ∙ drop-drop (length (turn_bytes t)) made out₀ in
      let left : length out₀ - made - length (turn_bytes t) ≡ length out₀ - made' = omega arith in
      let next : played (length out₀ - made) p (drop used piece) ≡ further t (played (length out₀ - made') t.play (drop (used + 1) piece)) =
      rw (drop-cons piece used 0 h, le-leb clock_room (length out₀ - made) (omega (arith, s.long)))
      (ap₂ (λ (k i : ℕ). further t (played k t.play (drop i piece))) left (sym (add-one used))) in
      record {
        within = omega arith;
        room = omega (arith, kept, e);
        long = kept ∙ s.long;
        rest = ap₂ drop e put.bytes ∙ drop_pasted made (turn_bytes t) out fits ∙ later ∙ ap (λ (k : ℕ). drop k out₀) (sym e);
        whole =
            more (take made out) (turn_bytes t) (take made' out') bytes (played (length out₀ - made') t.play (drop (used + 1) piece)) t refl
            ∙ ap (following used (take made out)) (sym next)
            ∙ s.whole;
      }
    where
      more : (xs bs cs : List ℕ) → cs ≡ xs ++ bs → (o : Outcome) (t : Turn) → turn_bytes t ≡ bs → following (used + 1) cs o ≡ following used xs (further t o)
      more xs bs cs e o t f =
          let k : used + 1 + o.used ≡ used + suc o.used = omega arith in
          let l : cs ++ o.says ≡ xs ++ (turn_bytes t ++ o.says) = rw (e, f) (append_assoc xs bs o.says) in
          ap₂ (λ (n : ℕ) (bytes : List ℕ). record { used = n; play = o.play; says = bytes }) k l

  -- a stretch of bytes more
  pub one_stretch : clock_room ≤ length out - made
      → (let x = stretch_of p.player p.line (drop used piece) in
      used + x.count ≤ length piece → SoFar p₀ piece out₀ (reached x p) (used + x.count) made out)
  one_stretch room within =
      let x = stretch_of p.player p.line (drop used piece) in
      let o = played (length out₀ - made) (reached x p) (drop (used + x.count) piece) in
      let k : used + x.count + o.used ≡ used + (x.count + o.used) = omega arith in
      let rest : played (length out₀ - made) p (drop used piece) ≡ following x.count [] o =
      reach_played (length out₀ - made) p (drop used piece) (omega (arith, s.long))
      ∙ ap (λ (text : List ℕ). following x.count [] (played (length out₀ - made) (reached x p) text)) (drop-drop x.count used piece) in
      record {
        within = within;
        room = s.room;
        long = s.long;
        rest = s.rest;
        whole =
            ap (λ (n : ℕ). record { used = n; play = o.play; says = take made out ++ o.says }) k
            ∙ ap (following used (take made out)) (sym rest)
            ∙ s.whole;
      }

  -- no byte is left, or no room
  ended : played (length out₀ - made) p (drop used piece) ≡ nothing p → played (length out₀) p₀ piece ≡ record { used = used; play = p; says = take made out }
  ended e =
      sym s.whole
      ∙ ap (following used (take made out)) e
      ∙ ap₂ (λ (n : ℕ) (bytes : List ℕ). record { used = n; play = p; says = bytes }) (add-zero used) (append-nil (take made out))

  pub all_taken : length piece ≤ used → played (length out₀) p₀ piece ≡ record { used = used; play = p; says = take made out }
  all_taken h =
      let e : used ≡ length piece = omega (arith, s.within) in
      ended (ap (played (length out₀ - made) p) (ap (λ (k : ℕ). drop k piece) e ∙ drop-length piece))

  pub no_room : length out - made < clock_room → played (length out₀) p₀ piece ≡ record { used = used; play = p; says = take made out }
  no_room h = ended (full (drop used piece))
    where
      full : (bs : List ℕ) → played (length out₀ - made) p bs ≡ nothing p
      full [] = refl
      full (b ∷ bs) = rw (lt-leb clock_room (length out₀ - made) (omega (arith, s.long)))

  -- the bytes that were printed
  pub printed_so_far : Put 0 (take made out) out₀ made out
  printed_so_far =
      let l : length (take made out) ≡ made = length-take-le made out s.room in
      record {
        ends = omega (arith, l);
        bytes =
            sym (take-append-drop made out)
            ∙ ap (λ (d : List ℕ). take made out ++ d) (s.rest ∙ ap (λ (k : ℕ). drop k out₀) (sym l ∙ sym (zero-add (length (take made out)))));
      }
