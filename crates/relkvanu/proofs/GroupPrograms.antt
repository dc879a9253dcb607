-- What a program does with a handle and a group is a list of turns, and it tells what is synced.
use Rattle.relkvanu.proofs.Imports.{◌≡◌, ℕ, zero, suc, ◌+◌, ◌-◌, ◌<◌, ◌≤◌, true, false, leb, ltb, List, [], ◌∷◌, ◌++◌, map, set, take, length, refl, sym, ap, ◌∙◌, subst, append_assoc}
use Rattle.relkvanu.proofs.Imports.{append-nil, length-append, arith, Some, slice_get, and_parts, leb-true, ltb-true, take_more_set, AreTurns, Life, Receipt, Made, Looked, Committed, Imaged}
use Rattle.relkvanu.proofs.Imports.{Crashed, Turn, World, goes_on, happens, lives, started, world, Machine, Answer, Group, IsRoom, all_told, bad_receipt, fresh, is_told, one_more, told_by}
use Rattle.relkvanu.proofs.Imports.{AreAsked, Notes, Operation, Asks, Looks, Syncs, Images, Ends, Performed, Performs, Program, TellsItsOwn, TellsWhatIsSynced, noted, one_noted, program}
use Rattle.relkvanu.proofs.Imports.{receipts, bad_argument}
use Rattle.relkvanu.specs.GroupPrograms.{Held, nothing}

abbrev answers : List Held → List Answer
answers held = map (λ h. h.0) held

map_both : {X Y : Type 0} (f : X → Y) (xs ys : List X) → map f (xs ++ ys) ≡ map f xs ++ map f ys
map_both f [] ys = refl
map_both f (x ∷ xs) ys = ap (λ rest. f x ∷ rest) (map_both f xs ys)

-- the buffer, and what was noted of it, in this world
record Fits (p : Program) (b : Notes) (w : World) : Type 0 where
  life : w.life ≡ p.life
  told : w.told ≡ receipts b.synced
  waiting : w.life.waiting ≡ receipts b.waiting
  held : take p.group.waiting p.held ≡ answers b.waiting
  count : length b.waiting ≡ p.group.waiting
  -- those that may be told are the last of those that are synced
  others : List Held
  ready : List Held
  split : b.synced ≡ others ++ ready
  there : take p.group.told p.held ≡ answers ready
  number : length ready ≡ p.group.told
  -- and the last that were given, if none waits
  earlier : List Held
  given : b.given ≡ earlier ++ (ready ++ b.waiting)
  next : b.first + length b.given ≡ p.group.given
  apart : 0 < p.group.told → b.waiting ≡ []

-- one answer more is held
one_held : (p q : Program) (b : Notes) (w v : World) (a : Answer) (r : Receipt) → Fits p b w → IsRoom p.group (length p.held)
    → v.life ≡ q.life → v.told ≡ w.told → v.life.waiting ≡ w.life.waiting ++ r ∷ []
    → q.group ≡ one_more p.group → q.held ≡ set p.held p.group.waiting a
    → Fits q (one_noted b (a, r)) v
one_held p q b w v a r f room life told waiting group held = record {
  life = life;
  told = told ∙ f.told;
  waiting = waiting ∙ ap (λ (rs : List Receipt). rs ++ r ∷ []) f.waiting ∙ sym (map_both (λ (h : Held). h.1) b.waiting ((a, r) ∷ []));
  held = ap (λ (g : Group). take g.waiting q.held) group ∙ ap (λ (xs : List Answer). take (p.group.waiting + 1) xs) held
      ∙ take_more_set p.held p.group.waiting a room.1 ∙ ap (λ (xs : List Answer). xs ++ a ∷ []) f.held
      ∙ sym (map_both (λ (h : Held). h.0) b.waiting ((a, r) ∷ []));
  count = length-append b.waiting ((a, r) ∷ []) ∙ ap (λ (n : ℕ). n + 1) f.count ∙ ap (λ (g : Group). g.waiting) (sym group);
  others = b.synced;
  ready = [];
  split = sym (append-nil b.synced);
  there = ap (λ (g : Group). take g.told q.held) group;
  number = ap (λ (g : Group). g.told) (sym group);
  earlier = f.earlier ++ f.ready;
  given = ap (λ (hs : List Held). hs ++ (a, r) ∷ []) f.given ∙ append_assoc f.earlier (f.ready ++ b.waiting) ((a, r) ∷ [])
      ∙ ap (λ (hs : List Held). f.earlier ++ hs) (append_assoc f.ready b.waiting ((a, r) ∷ [])) ∙ sym (append_assoc f.earlier f.ready (b.waiting ++ (a, r) ∷ []));
  next = one_next b p q a r f.next group;
  apart = λ some. absurd (none_told p q group some);
}
  where
    one_next : (b : Notes) (p q : Program) (a : Answer) (r : Receipt) → b.first + length b.given ≡ p.group.given → q.group ≡ one_more p.group
        → b.first + length (b.given ++ (a, r) ∷ []) ≡ q.group.given
    one_next b p q a r next group =
        let longer : length (b.given ++ (a, r) ∷ []) ≡ length b.given + 1 = length-append b.given ((a, r) ∷ []) in
        let is : q.group.given ≡ p.group.given + 1 = ap (λ (g : Group). g.given) group in
        omega arith

    none_told : (p q : Program) → q.group ≡ one_more p.group → 0 < q.group.told → ⊥
    none_told p q group some = let none : q.group.told ≡ 0 = ap (λ (g : Group). g.told) group in absurd (omega arith)

-- the turn of an operation
abbrev turn_of : Operation → Turn
turn_of (Asks event a) = Made event
turn_of (Looks a) = Looked
turn_of Syncs = Committed
turn_of (Images n) = Imaged n
turn_of (Ends n first) = Crashed n

-- the life after a turn of the world is the life after a turn
lives_on : (w : World) (turn : Turn) → (happens w turn).life ≡ lives w.life turn
lives_on w (Made event) = refl
lives_on w Looked = refl
lives_on w Committed = refl
lives_on w (Imaged n) = refl
lives_on w (Crashed n) = refl

goes_with : (p q : Program) (w : World) (operation : Operation) → w.life ≡ p.life → q.life ≡ lives p.life (turn_of operation) → (happens w (turn_of operation)).life ≡ q.life
goes_with p q w operation same is = lives_on w (turn_of operation) ∙ ap (λ (l : Life). lives l (turn_of operation)) same ∙ sym is

fits_on : (p q : Program) (b : Notes) (w : World) (operation : Operation) → Performs p operation q → Fits p b w → Fits q (noted p.life b operation) (happens w (turn_of operation))
fits_on p q b w (Asks event a) h f =
    let r : Receipt = record { state = p.life.now; entry = event ∷ [] } in
    one_held p q b w (happens w (Made event)) a r f h.0 (goes_with p q w (Asks event a) f.life (ap (λ (k : Program). k.life) h.1)) refl
    (ap (λ (l : Life). w.life.waiting ++ record { state = l.now; entry = event ∷ [] } ∷ []) f.life)
    (ap (λ (k : Program). k.group) h.1) (ap (λ (k : Program). k.held) h.1)
fits_on p q b w (Looks a) h f =
    let r : Receipt = record { state = p.life.now; entry = [] } in
    one_held p q b w (happens w Looked) a r f h.0 (goes_with p q w (Looks a) f.life (ap (λ (k : Program). k.life) h.1)) refl
    (ap (λ (l : Life). w.life.waiting ++ record { state = l.now; entry = [] } ∷ []) f.life)
    (ap (λ (k : Program). k.group) h.1) (ap (λ (k : Program). k.held) h.1)
fits_on p q b w Syncs h f =
    let group : q.group ≡ all_told p.group = ap (λ (k : Program). k.group) h.1 in
    let held : q.held ≡ p.held = ap (λ (k : Program). k.held) h.1 in
    record {
      life = goes_with p q w Syncs f.life (ap (λ (k : Program). k.life) h.1);
      told = ap (λ (rs : List Receipt). rs ++ w.life.waiting) f.told ∙ ap (λ (rs : List Receipt). receipts b.synced ++ rs) f.waiting
          ∙ sym (map_both (λ (it : Held). it.1) b.synced b.waiting);
      waiting = refl;
      held = ap (λ (g : Group). take g.waiting q.held) group;
      count = ap (λ (g : Group). g.waiting) (sym group);
      others = b.synced;
      ready = b.waiting;
      split = refl;
      there = ap (λ (g : Group). take g.told q.held) group ∙ ap (take p.group.waiting) held ∙ f.held;
      number = f.count ∙ ap (λ (g : Group). g.told) (sym group);
      earlier = f.earlier ++ f.ready;
      given = f.given ∙ sym (append_assoc f.earlier f.ready b.waiting) ∙ ap (λ (hs : List Held). (f.earlier ++ f.ready) ++ hs) (sym (append-nil b.waiting));
      next = f.next ∙ ap (λ (g : Group). g.given) (sym group);
      apart = λ _. refl;
    }
fits_on p q b w (Images n) h f =
    let group : q.group ≡ p.group = ap (λ (k : Program). k.group) h in
    let held : q.held ≡ p.held = ap (λ (k : Program). k.held) h in
    record {
      life = goes_with p q w (Images n) f.life (ap (λ (k : Program). k.life) h);
      told = f.told;
      waiting = f.waiting;
      held = ap (λ (g : Group). take g.waiting q.held) group ∙ ap (take p.group.waiting) held ∙ f.held;
      count = f.count ∙ ap (λ (g : Group). g.waiting) (sym group);
      others = f.others;
      ready = f.ready;
      split = f.split;
      there = ap (λ (g : Group). take g.told q.held) group ∙ ap (take p.group.told) held ∙ f.there;
      number = f.number ∙ ap (λ (g : Group). g.told) (sym group);
      earlier = f.earlier;
      given = f.given;
      next = f.next ∙ ap (λ (g : Group). g.given) (sym group);
      apart = λ some. f.apart (subst (λ (g : Group). 0 < g.told) group some);
    }
fits_on p q b w (Ends n first) h f =
    let group : q.group ≡ fresh first = ap (λ (k : Program). k.group) h.1 in
    record {
      life = goes_with p q w (Ends n first) f.life (ap (λ (k : Program). k.life) h.1);
      told = f.told;
      waiting = refl;
      held = ap (λ (g : Group). take g.waiting q.held) group;
      count = ap (λ (g : Group). g.waiting) (sym group);
      others = b.synced;
      ready = [];
      split = sym (append-nil b.synced);
      there = ap (λ (g : Group). take g.told q.held) group;
      number = ap (λ (g : Group). g.told) (sym group);
      earlier = [];
      given = refl;
      next = first_next first q group;
      apart = λ _. refl;
    }
  where
    first_next : (first : ℕ) (q : Program) → q.group ≡ fresh first → first + 0 ≡ q.group.given
    first_next first q group = let is : q.group.given ≡ first = ap (λ (g : Group). g.given) group in omega arith

reaches : (p q : Program) (b c : Notes) (w : World) (operations : List Operation) → Performed p b operations q c → Fits p b w
    → Fits q c (goes_on w (map turn_of operations))
reaches p q b c w [] h f = subst (λ (k : Program). Fits k c w) h.0 (subst (λ (n : Notes). Fits p n w) h.1 f)
reaches p q b c w (operation ∷ operations) h f =
    reaches h.0 q (noted p.life b operation) c (happens w (turn_of operation)) operations h.2 (fits_on p h.0 b w operation h.1 f)

are_turns : (operations : List Operation) → AreAsked operations → AreTurns (map turn_of operations)
are_turns [] asked = asked
are_turns (Asks event a ∷ operations) asked = (asked.0, are_turns operations asked.1)
are_turns (Looks a ∷ operations) asked = are_turns operations asked
are_turns (Syncs ∷ operations) asked = are_turns operations asked
are_turns (Images n ∷ operations) asked = are_turns operations asked
are_turns (Ends n first ∷ operations) asked = are_turns operations asked

begins : (m : Machine) (held : List Answer) → Fits (program m held) nothing (started m)
begins m held = record {
  life = refl;
  told = refl;
  waiting = refl;
  held = refl;
  count = refl;
  others = [];
  ready = [];
  split = refl;
  there = refl;
  number = refl;
  earlier = [];
  given = refl;
  next = refl;
  apart = λ _. refl;
}

-- the answer at a place of the buffer that was noted
abbrev IsThere : List Answer → List Held → ℕ → Type 0
IsThere held ready i = (before : List Held) × (h : Held) × (after : List Held) × (ready ≡ before ++ h ∷ after) × (slice_get held i ≡ Some h.0) × (length before ≡ i)

is_there : (held : List Answer) (ready : List Held) (i : ℕ) → take (length ready) held ≡ answers ready → i < length ready → IsThere held ready i
is_there held [] i same less = absurd (omega arith)
is_there [] (h ∷ ready) i same less = absurd cc
is_there (a ∷ held) (h ∷ ready) zero same less = ([], h, ready, refl, ap (λ (xs : List Answer). slice_get xs 0) same, refl)
is_there (a ∷ held) (h ∷ ready) (suc i) same less =
    let rest : IsThere held ready i = is_there held ready i (ap tail_of same) (omega arith) in
    (h ∷ rest.0, rest.1, rest.2, ap (λ (xs : List Held). h ∷ xs) rest.3, rest.4, ap suc rest.5)
  where
    tail_of : List Answer → List Answer
    tail_of [] = []
    tail_of (x ∷ xs) = xs

-- the place of an answer that may be told
abbrev place_of : Group → ℕ → ℕ
place_of g receipt = g.told - (g.given - receipt)

told_here : (g : Group) (held : List Answer) (receipt : ℕ) (a : Answer) → g.has_failed ≡ false → is_told g receipt ≡ true → slice_get held (place_of g receipt) ≡ Some a → told_by g held receipt ≡ a
told_here g held receipt a sound told at = rw (sound, told, at) refl

untold_here : (g : Group) (held : List Answer) (receipt : ℕ) → g.has_failed ≡ false → is_told g receipt ≡ false → told_by g held receipt ≡ bad_argument bad_receipt
untold_here g held receipt sound untold = rw (sound, untold) refl

tells_its_own : (p : Program) (b : Notes) (w : World) (receipt : ℕ) → Fits p b w → p.group.has_failed ≡ false → is_told p.group receipt ≡ true → TellsItsOwn p b receipt
tells_its_own p b w receipt f sound told =
    let g : Group = p.group in
    let parts = and_parts (ltb receipt g.given) (leb (g.given - receipt) g.told) told in
    let less : receipt < g.given = ltb-true receipt g.given parts.0 in
    let last : g.given - receipt ≤ g.told = leb-true (g.given - receipt) g.told parts.1 in
    let some : 0 < g.told = omega arith in
    let number : length f.ready ≡ g.told = f.number in
    let within : place_of g receipt < length f.ready = omega arith in
    let here : IsThere p.held f.ready (place_of g receipt) = is_there p.held f.ready (place_of g receipt) (ap (λ (n : ℕ). take n p.held) number ∙ f.there) within in
    let h : Held = here.1 in
    let given : b.given ≡ f.earlier ++ f.ready =
    f.given ∙ ap (λ (hs : List Held). f.earlier ++ hs) (ap (λ (hs : List Held). f.ready ++ hs) (f.apart some) ∙ append-nil f.ready) in
    let all : length b.given ≡ length f.earlier + length f.ready = ap length given ∙ length-append f.earlier f.ready in
    let next : b.first + length b.given ≡ g.given = f.next in
    let place : length here.0 ≡ place_of g receipt = here.5 in
    let before : length (f.earlier ++ here.0) ≡ length f.earlier + length here.0 = length-append f.earlier here.0 in
    let is : b.first + length (f.earlier ++ here.0) ≡ receipt = omega arith in (
      h,
      (f.others ++ here.0, here.2, f.split ∙ ap (λ (hs : List Held). f.others ++ hs) here.3 ∙ sym (append_assoc f.others here.0 (h ∷ here.2))),
      (f.earlier ++ here.0, here.2, given ∙ ap (λ (hs : List Held). f.earlier ++ hs) here.3 ∙ sym (append_assoc f.earlier here.0 (h ∷ here.2)), is),
      told_here g p.held receipt h.0 sound told here.4,
    )

pub tells_what_is_synced : (m : Machine) (held : List Answer) (operations : List Operation) (p : Program) (b : Notes) → TellsWhatIsSynced m held operations p b
tells_what_is_synced m held operations p b done =
    let f : Fits p b (world m (map turn_of operations)) = reaches (program m held) p nothing b (started m) operations done (begins m held) in (
      (map turn_of operations, f.life, f.told, are_turns operations),
      λ receipt sound told. tells_its_own p b (world m (map turn_of operations)) receipt f sound told,
      λ receipt sound untold. untold_here p.group p.held receipt sound untold,
    )
