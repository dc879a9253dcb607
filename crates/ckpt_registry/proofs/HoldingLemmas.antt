-- What a change of what one record holds does to the uses that the row stands for.
use Rattle.ckpt_registry.proofs.Names.{◌≡◌, ℕ, ◌+◌, ◌<◌, ◌≤◌, Bool, not, cond, eqb, ltb, ◌&&◌, length, get_or, take, List, [], ◌∷◌, ◌++◌, refl, sym, ap, subst, ◌∙◌, ⊎_elim, arith, count_by, ◌⊎◌, inl}
use Rattle.ckpt_registry.proofs.Names.{inr, filter, flat_map, cases_eq, eq-eqb, ne_eqb, nat_tests, append-nil, take_more, sum_by-filter_both, filter-append, flat_map-append, times, IsIn, Use, Subtask}
use Rattle.ckpt_registry.proofs.Names.{count, count_by-append, times-append, IsIn-from_flat_map, IsIn-from_map, IsInOrder-filter, filter-all, filter-same, filter-none, filter-filter, Holding}
use Rattle.ckpt_registry.proofs.Names.{Acknowledged, AreRising, Extends, parts_of, uses_by, uses_in, triples, is_owned, without, without_record, Part, files_in, files_of, common_steps}
use Rattle.ckpt_registry.proofs.ListLemmas.{count_by-filter, count_by-filter_le}
use Rattle.std.proofs.lemmas.Bool.{cond_both}
use Rattle.ckpt_ids.proofs.OrderedLemmas.{only_one}

abbrev pub number : Holding → ℕ
number h = h.id

abbrev pub has_id : ℕ → Holding → Bool
has_id id h = eqb h.id id

abbrev pub parts_in : List Holding → List Part
parts_in hs = flat_map (λ h. h.parts) hs

-- the uses of one part
abbrev part_uses : ℕ → Part → List Use
part_uses id part = triples id (Subtask part.subtask) (files_of part)

pub uses_by-id : (id : ℕ) (parts : List Part) (u : Use) → IsIn u (uses_by id parts) → u.id ≡ id
uses_by-id id parts u h =
    let q = IsIn-from_flat_map (part_uses id) u parts h in
    let t = IsIn-from_map (λ (f : ℕ). record { id = id; holder = Subtask q.0.subtask; file = f }) u (files_of q.0) q.2 in
    ap (λ v. v.id) t.2

-- the uses of the records whose numbers pass a test
uses_in-filter : (t : ℕ → Bool) (hs : List Holding) → filter (λ (u : Use). t u.id) (uses_in hs) ≡ uses_in (filter (λ (h : Holding). t h.id) hs)
uses_in-filter t [] = refl
uses_in-filter t (h ∷ hs) =
    let q : Use → Bool = λ u. t u.id in
    let own : List Use = uses_by h.id h.parts in
    let left : List Holding = filter (λ (o : Holding). t o.id) hs in
    let same : (u : Use) → IsIn u own → q u ≡ t h.id = λ u k. ap t (uses_by-id h.id h.parts u k) in
    filter-append q own (uses_in hs) ∙ ap (λ us. filter q own ++ us) (uses_in-filter t hs)
    ∙ cond_both (t h.id) (h ∷ left) left (λ os. filter q own ++ uses_in left ≡ uses_in os) (λ e. ap (λ us. us ++ uses_in left) (filter-all q own (λ u k. same u k ∙ e)))
    (λ e. ap (λ us. us ++ uses_in left) (filter-none q own (λ u k. same u k ∙ e)))

-- how often a record's parts have a file
pub count-uses_by : (id f : ℕ) (parts : List Part) → count (uses_by id parts) f ≡ times f (files_in parts)
count-uses_by id f [] = grind (arith, common_steps)
count-uses_by id f (part ∷ parts) = grind (arith, common_steps, count-uses_by id f parts)

-- how often what these records hold has a file
count-uses_in : (hs : List Holding) (f : ℕ) → count (uses_in hs) f ≡ times f (files_in (parts_in hs))
count-uses_in [] f = refl
count-uses_in (h ∷ hs) f = grind (arith, common_steps, count-uses_by h.id f h.parts, count-uses_in hs f, count_by-append, times-append)

-- a record uses the files of its parts, and the others use theirs
pub count-used_by : (m : Acknowledged) (id f : ℕ) → count_by (λ (u : Use). eqb u.id id && eqb u.file f) (uses_in m.items) ≡ times f (files_in (parts_of m id))
count-used_by m id f =
    rw (← count_by-filter (λ (u : Use). eqb u.file f) (λ (u : Use). eqb u.id id) (uses_in m.items), uses_in-filter (λ k. eqb k id) m.items) (count-uses_in (filter (has_id id) m.items) f)

-- what a record uses is used
pub count-parts_of : (m : Acknowledged) (id f : ℕ) → times f (files_in (parts_of m id)) ≤ count (uses_in m.items) f
count-parts_of m id f =
    omega (
      arith,
      count-used_by m id f,
      count_by-filter (λ (u : Use). eqb u.file f) (λ (u : Use). eqb u.id id) (uses_in m.items),
      count_by-filter_le (λ (u : Use). eqb u.file f)
          (λ (u : Use). eqb u.id id) (uses_in m.items),
    )

-- those that pass a test and the others
count_by-both : {X : Type 0} (p q : X → Bool) (xs : List X) → count_by p xs ≡ count_by p (filter q xs) + count_by p (filter (λ x. not (q x)) xs)
count_by-both p q xs = sym (sum_by-filter_both q (λ x. not (q x)) (λ x. refl) (λ x. cond (p x) 1 0) xs)

-- a record goes

module _ (m n : Acknowledged) (id : ℕ) (gone : n.items ≡ filter (λ (h : Holding). not (eqb h.id id)) m.items) where
  pub uses_in-gone : uses_in n.items ≡ without_record id (uses_in m.items)
  uses_in-gone = ap uses_in gone ∙ sym (uses_in-filter (λ k. not (eqb k id)) m.items)

  -- the uses of one record and those of the others
  pub count-gone : (f : ℕ) → count (uses_in m.items) f ≡ times f (files_in (parts_of m id)) + count (uses_in n.items) f
  count-gone f =
      rw uses_in-gone (omega (
        arith,
        count-used_by m id f,
        count_by-filter (λ (u : Use). eqb u.file f) (λ (u : Use). eqb u.id id) (uses_in m.items),
        count_by-both (λ (u : Use). eqb u.file f)
            (λ (u : Use). eqb u.id id) (uses_in m.items),
      ))

  pub parts_of-gone : (d : ℕ) → (d ≡ id → ⊥) → parts_of n d ≡ parts_of m d
  parts_of-gone d ne =
      let other : (h : Holding) → IsIn h m.items → (not (eqb h.id id) && eqb h.id d) ≡ eqb h.id d = λ h k. grind (arith, nat_tests) in
      ap parts_in (ap (filter (has_id d)) gone ∙ filter-filter (has_id d) (λ (h : Holding). not (eqb h.id id)) m.items ∙ filter-same (λ (h : Holding). not (eqb h.id id) && eqb h.id d)
      (has_id d) m.items other)

  pub AreRising-gone : AreRising m.items → AreRising n.items
  AreRising-gone a = subst AreRising (sym gone) (IsInOrder-filter (λ g h. ltb g.id h.id) (λ h. not (eqb h.id id)) m.items a)

-- A record gets more parts. What it held is between the records of other numbers.

module _ (m n : Acknowledged) (id : ℕ) (before old after : List Holding) (new : Holding) (more : List Part) (had : m.items ≡ before ++ (old ++ after)) (has : n.items ≡ before ++ new ∷ after)
    (own : new.id ≡ id)
    (all : (h : Holding) → IsIn h old → h.id ≡ id) (grown : new.parts ≡ parts_in old ++ more) where
  uses_old : (hs : List Holding) → ((h : Holding) → IsIn h hs → h.id ≡ id) → uses_in hs ≡ uses_by id (parts_in hs)
  uses_old [] ids = refl
  uses_old (h ∷ hs) ids = rw (ids h (inl refl), uses_old hs (λ x k. ids x (inr k)), flat_map-append (part_uses id) h.parts (parts_in hs))

  uses_new : uses_by new.id new.parts ≡ uses_in old ++ uses_by id more
  uses_new = rw (own, grown, flat_map-append (part_uses id) (parts_in old) more, uses_old old all)

  was : uses_in m.items ≡ uses_in before ++ (uses_in old ++ uses_in after)
  was = rw (had, flat_map-append, flat_map-append)

  is : uses_in n.items ≡ uses_in before ++ ((uses_in old ++ uses_by id more) ++ uses_in after)
  is = rw (has, flat_map-append, uses_new)

  pub uses-grown : (p : Use → Bool) → count_by p (uses_in n.items) ≡ count_by p (uses_in m.items) + count_by p (uses_by id more)
  uses-grown p =
      let first : count_by p (uses_in n.items) ≡ count_by p (uses_in before ++ ((uses_in old ++ uses_by id more) ++ uses_in after)) = ap (count_by p) is in
      let second : count_by p (uses_in m.items) ≡ count_by p (uses_in before ++ (uses_in old ++ uses_in after)) = ap (count_by p) was in
      omega (
        arith,
        first,
        second,
        count_by-append p (uses_in before) ((uses_in old ++ uses_by id more) ++ uses_in after),
        count_by-append p (uses_in old ++ uses_by id more) (uses_in after),
        count_by-append p (uses_in old) (uses_by id more),
        count_by-append p (uses_in before) (uses_in old ++ uses_in after),
        count_by-append p (uses_in old) (uses_in after),
      )

  held_by : (q : ℕ) (xs ys : List Holding) → parts_in (filter (has_id q) (xs ++ ys)) ≡ parts_in (filter (has_id q) xs) ++ parts_in (filter (has_id q) ys)
  held_by q xs ys = ap parts_in (filter-append (has_id q) xs ys) ∙ flat_map-append _ (filter (has_id q) xs) (filter (has_id q) ys)

  pub Extends-grown : ((h : Holding) → IsIn h before ⊎ IsIn h after → h.id ≡ id → ⊥) → Extends m n
  Extends-grown apart = λ q.
      let Goal : Type 0 = (x : List Part) × (parts_of n q ≡ parts_of m q ++ x) in
      let held : List Holding → List Part = λ hs. parts_in (filter (has_id q) hs) in
      let none : (hs : List Holding) → ((h : Holding) → IsIn h hs → h.id ≡ q → ⊥) → held hs ≡ [] = λ hs ne. ap parts_in (filter-none (has_id q) hs (λ x k. ne_eqb x.id q (ne x k))) in
      let whole : parts_of m q ≡ held before ++ (held old ++ held after) = rw (had, held_by q before (old ++ after), held_by q old after) in
      let after_all : parts_of n q ≡ held before ++ (held (new ∷ []) ++ held after) = rw (has, held_by q before (new ∷ after), held_by q (new ∷ []) after) in
      let same : q ≡ id → Goal = λ e.
      let old_parts : held old ≡ parts_in old = ap parts_in (filter-all (has_id q) old (λ x k. eq-eqb x.id q (all x k ∙ sym e))) in
      let new_parts : held (new ∷ []) ≡ new.parts = rw (eq-eqb new.id q (own ∙ sym e), append-nil) in
      (more, rw (after_all, whole, new_parts, old_parts, none before (λ x k i. apart x (inl k) (i ∙ e)), none after (λ x k i. apart x (inr k) (i ∙ e))) (simp append-nil grown)) in
      let other : (q ≡ id → ⊥) → Goal = λ ne.
      ([], rw (after_all, whole, none old (λ x k i. ne (sym i ∙ all x k)), none (new ∷ []) (λ x k i. ne (sym i ∙ ap number (only_one x new k) ∙ own))) (simp append-nil)) in
      ⊎_elim same other (cases_eq q id)

abbrev stays : List ℕ → Use → Bool
stays owners u = not (is_owned owners u)

stays_push : (owners : List ℕ) (owner : ℕ) (u : Use) → stays (owners ++ owner ∷ []) u ≡ (stays owners u && not (eqb u.id owner))
stays_push [] owner u = grind arith
stays_push (o ∷ owners) owner u = grind (arith, stays_push owners owner u)

without-push : (owners : List ℕ) (owner : ℕ) (us : List Use) → without (owners ++ owner ∷ []) us ≡ without_record owner (without owners us)
without-push owners owner us = grind (arith, common_steps, filter-filter, filter-same, stays_push)

-- one record more is released, of a list of which i were
pub without_more : (owners : List ℕ) (i owner : ℕ) (us now : List Use) → i < length owners → owner ≡ get_or owners i owner → now ≡ without (take i owners) us
    → without_record owner now ≡ without (take (i + 1) owners) us
without_more owners i owner us now within at kept = grind (arith, common_steps, take_more, without-push)

-- all stay if no record goes
pub without-none : (us : List Use) → without [] us ≡ us
without-none us = filter-all (stays []) us (λ u k. refl)
