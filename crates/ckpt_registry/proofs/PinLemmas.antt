-- What the pins of records come to, and how they change with the records.
use Rattle.ckpt_registry.proofs.Names.{◌≡◌, ℕ, ◌+◌, ◌<◌, ◌≤◌, Bool, true, false, not, cond, eqb, ltb, List, [], ◌∷◌, ◌++◌, length, get_or, take, drop, set, refl, sym, ap, subst, ◌∙◌, inl, inr, ⊎_elim}
use Rattle.ckpt_registry.proofs.Names.{arith, length-append, filter, flat_map-append, append-nil, drop_more, get_or_at, take_more, take_more_set, get_or-drop, drop-set-lt, drop-drop, take-append-le}
use Rattle.ckpt_registry.proofs.Names.{filter-append, sum_by-cons, one_if, times, IsIn, Use, Pin, Subtask, count, same_holder, eqb_turned, count_by-map, IsIn-from_filter, IsIn-from_flat_map}
use Rattle.ckpt_registry.proofs.Names.{IsIn-from_map, IsIn-append_cases, filter-all, filter-none, Holding, FirstParts, Pinner, Pins, Record, Files, Acknowledged, Extends, parts_of, uses_by, uses_in}
use Rattle.ckpt_registry.proofs.Names.{AreKept, AreSettled, IsKept, IsSettled, each_file, first_of, is_named, own_files, own_in, own_of, parts_pinned, pinned_by, pins_in, pins_of_records, is_owned}
use Rattle.ckpt_registry.proofs.Names.{triples, without, Part, files_in, files_of, common_steps, IsIn-at}
use Rattle.ckpt_registry.proofs.HoldingLemmas.{count-parts_of}
use Rattle.ckpt_registry.proofs.ListLemmas.{times-ascending_set}
use Rattle.ckpt_registry.proofs.PartLemmas.{times_of_take}
use Rattle.std.proofs.lemmas.Bool.{cond_both}
use Rattle.ckpt_ids.proofs.OrderedLemmas.{only_one}

-- how often pins name a file

pub count-triples_of : (id : ℕ) (f : ℕ) (files : List ℕ) → count (triples id Pin files) f ≡ times f files
count-triples_of id f files = count_by-map (λ (u : Use). eqb u.file f) (λ (x : ℕ). record { id = id; holder = Pin; file = x }) files

pub count-pins_in : (m : Acknowledged) (pinned : List Pinner) (f : ℕ) → count (pins_in m pinned) f ≡ pins_of_records m f pinned + times f (own_in pinned)
count-pins_in m [] f = grind (arith, common_steps)
count-pins_in m (one ∷ pinned) f = grind (arith, common_steps, count-pins_in m pinned f)

-- a record that is pinned is live, so each of its files has a use

times_each : (f : ℕ) (n : ℕ) (parts : List Part) → times f (files_in parts) ≡ 0 → times f (each_file (take n parts)) ≡ 0
times_each f n parts none =
    let few : times f (files_in (take n parts)) ≤ times f (files_in parts) = times_of_take files_of f n parts in
    let zero_times : times f (files_in (take n parts)) ≡ 0 = omega (arith, few, none) in
    times-ascending_set f (files_in (take n parts)) ∙ ap (λ t. one_if (ltb 0 t)) zero_times

times_pinned-none : (m : Acknowledged) (f : ℕ) (pins : Pins) → count (uses_in m.items) f ≡ 0 → times f (each_file (parts_pinned m pins)) ≡ 0
times_pinned-none m f (Record first room) none = times_each f first.parts (parts_of m first.id) (omega (arith, none, count-parts_of m first.id f))
times_pinned-none m f (Files own) none = refl

pub pins_of_records-none : (m : Acknowledged) (f : ℕ) (pinned : List Pinner) → count (uses_in m.items) f ≡ 0 → pins_of_records m f pinned ≡ 0
pins_of_records-none m f [] none = refl
pins_of_records-none m f (one ∷ pinned) none =
    omega (arith, times_pinned-none m f one.pins none, pins_of_records-none m f pinned none, sum_by-cons (λ (o : Pinner). times f (each_file (parts_pinned m o.pins))) one pinned)

-- records that get more parts

parts_pinned-extended : (m n : Acknowledged) (pins : Pins) → Extends m n → IsKept m pins → parts_pinned n pins ≡ parts_pinned m pins
parts_pinned-extended m n (Record first room) more kept = let e = more first.id in ap (take first.parts) e.1 ∙ take-append-le first.parts (parts_of m first.id) e.0 kept.0
parts_pinned-extended m n (Files own) more kept = refl

pub pins_in-extended : (m n : Acknowledged) (pinned : List Pinner) → Extends m n → AreKept m pinned → pins_in n pinned ≡ pins_in m pinned
pins_in-extended m n [] more kept = refl
pins_in-extended m n (one ∷ pinned) more kept = rw (parts_pinned-extended m n one.pins more (kept one (inl refl)), pins_in-extended m n pinned more (λ o h. kept o (inr h)))

IsKept-extended : (m n : Acknowledged) (pins : Pins) → Extends m n → IsKept m pins → IsKept n pins
IsKept-extended m n (Record first room) more kept =
    let e = more first.id in
    (omega (arith, kept.0, ap (λ ps. length ps) e.1, length-append (parts_of m first.id) e.0), kept.1, rw (parts_pinned-extended m n (Record first room) more kept) kept.2)
IsKept-extended m n (Files own) more kept = tt

pub AreKept-extended : (m n : Acknowledged) (pinned : List Pinner) → Extends m n → AreKept m pinned → AreKept n pinned
AreKept-extended m n pinned more kept = λ one h. IsKept-extended m n one.pins more (kept one h)

-- what one of the pinners keeps
pub IsKept-at : (m : Acknowledged) (pinned : List Pinner) (i : ℕ) (one : Pinner) → AreKept m pinned → i < length pinned → one ≡ get_or pinned i one → IsKept m one.pins
IsKept-at m pinned i one kept within at = kept one (IsIn-at pinned i one within at)

-- one more pins

pub pins_in-push : (m : Acknowledged) (pinned : List Pinner) (one : Pinner) → pins_in m (pinned ++ one ∷ []) ≡ pins_in m pinned ++ triples one.id Pin (pinned_by m one.pins)
pins_in-push m pinned one = simp (flat_map-append, append-nil)

pub own_in-push : (f : ℕ) (pinned : List Pinner) (one : Pinner) → times f (own_in (pinned ++ one ∷ [])) ≡ times f (own_in pinned) + times f (own_files one.pins)
own_in-push f pinned one = grind (arith, common_steps)

pub AreKept-push : (m : Acknowledged) (pinned : List Pinner) (one : Pinner) → AreKept m pinned → IsKept m one.pins → AreKept m (pinned ++ one ∷ [])
AreKept-push m pinned one kept new = λ o h. ⊎_elim (λ k. kept o k) (λ k. rw (only_one o one k) new) (IsIn-append_cases o pinned (one ∷ []) h)

-- some no longer pin

owned_by_name : (owners : List ℕ) (u : Use) → is_owned owners u ≡ is_named owners u.id
owned_by_name [] u = refl
owned_by_name (o ∷ owners) u = rw (eqb_turned u.id o, owned_by_name owners u)

triples-id : (id : ℕ) (files : List ℕ) (u : Use) → IsIn u (triples id Pin files) → u.id ≡ id
triples-id id files u h = grind (arith, common_steps, IsIn-from_map)

abbrev pub goes : List ℕ → Pinner → Bool
goes owners one = is_named owners one.id

pub pins_in-filter : (m : Acknowledged) (owners : List ℕ) (pinned : List Pinner) → pins_in m (filter (λ one. not (is_named owners one.id)) pinned) ≡ without owners (pins_in m pinned)
pins_in-filter m owners [] = refl
pins_in-filter m owners (one ∷ pinned) =
    let here : List Use = triples one.id Pin (pinned_by m one.pins) in
    let left : List Pinner = filter (λ o. not (is_named owners o.id)) pinned in
    let stays : Use → Bool = λ u. not (is_owned owners u) in
    let same : (u : Use) → IsIn u here → stays u ≡ not (goes owners one) = λ u h. ap not (owned_by_name owners u ∙ ap (is_named owners) (triples-id one.id (pinned_by m one.pins) u h)) in
    cond_both (not (goes owners one)) (one ∷ left) left (λ ps. pins_in m ps ≡ without owners here ++ pins_in m left)
    (λ e. ap (λ us. us ++ pins_in m left) (sym (filter-all stays here (λ u h. same u h ∙ e))))
    (λ e. ap (λ us. us ++ pins_in m left) (sym (filter-none stays here (λ u h. same u h ∙ e))))
    ∙ ap (λ us. without owners here ++ us) (pins_in-filter m owners pinned) ∙ sym (filter-append stays here (pins_in m pinned))

-- the files of the pinners that are removed, and of those that stay
pub own_in-parts : (f : ℕ) (owners : List ℕ) (pinned : List Pinner) → times f (own_of owners pinned) + times f (own_in (filter (λ one. not (is_named owners one.id)) pinned)) ≡ times f (own_in pinned)
own_in-parts f owners [] = grind (arith, common_steps)
own_in-parts f owners (one ∷ pinned) = grind (arith, common_steps, own_in-parts f owners pinned)

pub AreKept-filter : (m : Acknowledged) (t : Pinner → Bool) (pinned : List Pinner) → AreKept m pinned → AreKept m (filter t pinned)
AreKept-filter m t pinned kept = λ one h. kept one (IsIn-from_filter t one pinned h).0

-- a record is removed that some pin

pub AreSettled-push : (c : ℕ) (ps : List Part) (os ns : List Pinner) (o n : Pinner) → AreSettled c ps os ns → n.id ≡ o.id → IsSettled c ps o.pins n.pins → AreSettled c ps (os ++ o ∷ []) (ns ++ n ∷ [])
AreSettled-push c ps [] [] o n all same new = (same, new, tt)
AreSettled-push c ps [] (x ∷ ns) o n all same new = absurd all
AreSettled-push c ps (x ∷ os) [] o n all same new = absurd all
AreSettled-push c ps (x ∷ os) (y ∷ ns) o n all same new = (all.0, all.1, AreSettled-push c ps os ns o n all.2 same new)

module _ (m n : Acknowledged) (c : ℕ) (others : (d : ℕ) → (d ≡ c → ⊥) → parts_of n d ≡ parts_of m d) where
  first_of-other : (first : FirstParts) → (first.id ≡ c → ⊥) → first_of n first ≡ first_of m first
  first_of-other first ne = ap (take first.parts) (others first.id ne)

  pinned_by-settled : (o x : Pins) → IsSettled c (parts_of m c) o x → pinned_by n x ≡ pinned_by m o
  pinned_by-settled (Record first room) (Files own) s =
      s.1 ∙ ap (λ d. each_file (take first.parts (parts_of m d))) (sym s.0) ∙ sym (append-nil (each_file (first_of m first)))
  pinned_by-settled (Record first room) (Record same left) s = ap (pinned_by n) s.1 ∙ ap (λ ps. each_file ps ++ []) (first_of-other first s.0)
  pinned_by-settled (Files own) x s = ap (pinned_by n) s

  pub pins_in-settled : (os ns : List Pinner) → AreSettled c (parts_of m c) os ns → pins_in n ns ≡ pins_in m os
  pins_in-settled [] [] all = refl
  pins_in-settled [] (x ∷ ns) all = absurd all
  pins_in-settled (o ∷ os) [] all = absurd all
  pins_in-settled (o ∷ os) (x ∷ ns) all = rw (all.0, pinned_by-settled o.pins x.pins all.1, pins_in-settled os ns all.2)

  IsKept-settled : (o x : Pins) → IsKept m o → IsSettled c (parts_of m c) o x → IsKept n x
  IsKept-settled (Record first room) (Files own) kept s = tt
  IsKept-settled (Record first room) (Record same left) kept s = subst (IsKept n) (sym s.1) (rw (others first.id s.0) kept)
  IsKept-settled (Files own) x kept s = subst (IsKept n) (sym s) tt

  pub AreKept-settled : (os ns : List Pinner) → AreKept m os → AreSettled c (parts_of m c) os ns → AreKept n ns
  AreKept-settled [] [] kept all = λ x h. absurd h
  AreKept-settled [] (x ∷ ns) kept all = absurd all
  AreKept-settled (o ∷ os) [] kept all = absurd all
  AreKept-settled (o ∷ os) (x ∷ ns) kept all = λ y h.
      ⊎_elim (λ e. rw e (IsKept-settled o.pins x.pins (kept o (inl refl)) all.1)) (λ k. AreKept-settled os ns (λ p q. kept p (inr q)) all.2 y k) h

-- the files that become a pinner's own are those that it pins of the record
own-settled : (m : Acknowledged) (c f : ℕ) (o x : Pins) → IsSettled c (parts_of m c) o x
    → (times f (own_files o) ≤ times f (own_files x)) × (times f (own_files x) ≤ times f (own_files o) + times f (each_file (parts_pinned m o)))
own-settled m c f o x h5 = grind (arith, common_steps)

pub own_in-settled : (m : Acknowledged) (c f : ℕ) (os ns : List Pinner) → AreSettled c (parts_of m c) os ns
    → (times f (own_in os) ≤ times f (own_in ns)) × (times f (own_in ns) ≤ times f (own_in os) + pins_of_records m f os)
own_in-settled m c f [] [] all = (omega arith, omega arith)
own_in-settled m c f [] (x ∷ ns) all = absurd all
own_in-settled m c f (o ∷ os) [] all = absurd all
own_in-settled m c f (o ∷ os) (x ∷ ns) all = grind (arith, common_steps, own-settled m c f o.pins x.pins all.1, own_in-settled m c f os ns all.2)

-- one pinner more has been looked at
module _ (chosen : ℕ) (parts : List Part) (old now : List Pinner) (i : ℕ) (d : Pinner) (within : i < length now) (same_length : length now ≡ length old) (left : drop i now ≡ drop i old) where
  pub item_left : get_or now i d ≡ get_or old i d
  item_left = grind (arith, get_or-drop i now 0 d, get_or-drop i old 0 d)

  pub left_more : (y : Pinner) → drop (i + 1) (set now i y) ≡ drop (i + 1) old
  left_more y = grind (arith, drop-set-lt (i + 1) now i y, drop-drop 1 i now, drop-drop 1 i old)

  pub settled_more : (y : Pinner) → AreSettled chosen parts (take i old) (take i now) → y.id ≡ (get_or old i d).id → IsSettled chosen parts (get_or old i d).pins y.pins
      → AreSettled chosen parts (take (i + 1) old) (take (i + 1) (set now i y))
  settled_more y all same new =
      rw (take_more old i d (omega (arith, within, same_length)), take_more_set now i y within) (AreSettled-push chosen parts (take i old) (take i now) (get_or old i d) y all same new)

-- the files of the pinners that are removed, for one pinner more

pub own_of-more : (f : ℕ) (owners : List ℕ) (pinned : List Pinner) (i : ℕ) (one : Pinner) → i < length pinned → one ≡ get_or pinned i one
    → times f (own_of owners (take (i + 1) pinned)) ≡ times f (own_of owners (take i pinned)) + cond (goes owners one) (times f (own_files one.pins)) 0
own_of-more f owners pinned i one within at = grind (arith, common_steps)

pub own_of-le : (f : ℕ) (owners : List ℕ) (n : ℕ) (pinned : List Pinner) → times f (own_of owners (take n pinned)) ≤ times f (own_in pinned)
own_of-le f owners n pinned = omega (arith, own_in-parts f owners (take n pinned), times_of_take (λ (o : Pinner). own_files o.pins) f n pinned)

-- A walk over a row of pinners takes those out who go. It has seen the first i, and the others come after those that stay.

abbrev pub staying : List ℕ → List Pinner → List Pinner
staying owners pinned = filter (λ one. not (is_named owners one.id)) pinned

module _ (owners : List ℕ) (old row : List Pinner) (i place : ℕ) (one : Pinner) (is : row ≡ staying owners (take i old) ++ drop i old) (at : place ≡ length (staying owners (take i old)))
    (here : one ≡ get_or row place one) (below : i < length old) where
  abbrev kept : List Pinner
  kept = staying owners (take i old)

  abbrev first : Pinner
  first = get_or old i one

  split : row ≡ kept ++ first ∷ drop (i + 1) old
  split = is ∙ ap (λ os. kept ++ os) (drop_more old i one below)

  pub walked_one : one ≡ get_or old i one
  walked_one = here ∙ ap (λ os. get_or os place one) split ∙ get_or_at kept first (drop (i + 1) old) one place (sym at)

  more : staying owners (take (i + 1) old) ≡ kept ++ staying owners (one ∷ [])
  more = ap (staying owners) (take_more old i one below) ∙ filter-append (λ o. not (is_named owners o.id)) (take i old) (first ∷ []) ∙ ap (λ o. kept ++ staying owners (o ∷ [])) (sym walked_one)

  module _ (e : goes owners one ≡ true) where
    none_more : staying owners (take (i + 1) old) ≡ kept
    none_more = grind (arith, common_steps, more)

    pub walked_out : take place row ++ drop (place + 1) row ≡ staying owners (take (i + 1) old) ++ drop (i + 1) old
    walked_out = grind (arith, common_steps, split, none_more)

    pub place_same : place ≡ length (staying owners (take (i + 1) old))
    place_same = at ∙ ap (λ os. length os) (sym none_more)

  module _ (e : goes owners one ≡ false) where
    one_more : staying owners (take (i + 1) old) ≡ kept ++ one ∷ []
    one_more = grind (arith, common_steps, more)

    pub walked_on : row ≡ staying owners (take (i + 1) old) ++ drop (i + 1) old
    walked_on = grind (arith, common_steps, split, one_more, walked_one)

    pub place_next : place + 1 ≡ length (staying owners (take (i + 1) old))
    place_next = grind (arith, common_steps, one_more)

-- before the end of the walk the row has one more
pub walk_within : (owners : List ℕ) (old row : List Pinner) (i place : ℕ) → row ≡ staying owners (take i old) ++ drop i old → place ≡ length (staying owners (take i old)) → i < length old
    → place < length row
walk_within owners old row i place is at below = grind (arith, common_steps)

-- the holder of a use

pub uses_in-holder : (held : List Holding) (u : Use) → IsIn u (uses_in held) → same_holder u.holder Pin ≡ false
uses_in-holder held u h =
    let e = IsIn-from_flat_map (λ (x : Holding). uses_by x.id x.parts) u held h in
    let part = IsIn-from_flat_map (λ (p : Part). triples e.0.id (Subtask p.subtask) (files_of p)) u e.0.parts e.2 in
    let file = IsIn-from_map (λ (x : ℕ). record { id = e.0.id; holder = Subtask part.0.subtask; file = x }) u (files_of part.0) part.2 in
    ap (λ (v : Use). same_holder v.holder Pin) file.2

pub pins_in-holder : (m : Acknowledged) (pinned : List Pinner) (u : Use) → IsIn u (pins_in m pinned) → same_holder u.holder Pin ≡ true
pins_in-holder m pinned u h = grind (arith, common_steps, IsIn-from_flat_map, IsIn-from_map)
