-- The layer of an image is sound exactly if what is tested of it holds, where the coordinator is.
use Rattle.ckpt_terms.proofs.Imports.{◌≡◌, ℕ, ◌<◌, ◌≤◌, ◌^◌, Bool, true, false, not, ◌&&◌, ltb, List, [], ◌∷◌, ◌++◌, refl, sym, ap, subst, ◌∙◌, inl, inr, ⊎_elim, list_all, cases_Bool}
use Rattle.ckpt_terms.proofs.Imports.{both_ways, and_parts, and_from, ltb-true, lt-ltb, not_from_false, not_from_true, or_cases, list_all-map, Acked, IsAscendingSet, IsIn, Record, uses}
use Rattle.ckpt_terms.proofs.Imports.{is_present, IsIn-append_cases, IsIn-append_left, IsIn-append_right, IsIn-from_test, test-from_IsIn, CanHold, record_in, settled, State, in_outbox}
use Rattle.ckpt_terms.proofs.Imports.{is_known, is_cancelled, IsSound, IsHeld, IsHeld-from_present, present-from_IsHeld, TermsImage, Fenced, is_unspent, IsFenced, files_are_spent, is_spent}
use Rattle.ckpt_terms.proofs.Imports.{record_is_spent, CanHoldFenced, fenced_in, fenced_settled}
use Rattle.ckpt_terms.proofs.{Known.known-from_outbox, Known.known-from_present, Resuming.settled_fenced, TermLemmas.layer}

-- what all elements pass, each passes
passes_at : {X : Type 0} (p : X → Bool) (x : X) (xs : List X) → list_all p xs ≡ true → IsIn x xs → p x ≡ true
passes_at p x [] e h = absurd h
passes_at p x (y ∷ xs) e (inl same) = ap p same ∙ (and_parts (p y) (list_all p xs) e).0
passes_at p x (y ∷ xs) e (inr h) = passes_at p x xs (and_parts (p y) (list_all p xs) e).1 h

pass_all : {X : Type 0} (p : X → Bool) (xs : List X) → ((x : X) → IsIn x xs → p x ≡ true) → list_all p xs ≡ true
pass_all p [] h = refl
pass_all p (x ∷ xs) h = and_from (p x) (list_all p xs) (h x (inl refl)) (pass_all p xs (λ y k. h y (inr k)))

-- the name of each known file of the state is spent
abbrev pub all_are_spent : Fenced → Bool
all_are_spent m = list_all (record_is_spent m) m.core.records && list_all (is_spent m) m.core.waiting && list_all (is_spent m) m.core.taken

pub same_files : (i : TermsImage) → files_are_spent i ≡ all_are_spent (fenced_in i)
same_files i =
    let m : Fenced = fenced_in i in
    ap (λ b. b && list_all (is_spent m) m.core.waiting && list_all (is_spent m) m.core.taken) (sym (list_all-map (record_is_spent m) record_in i.core.records.items))

known_spent : (m : Fenced) → all_are_spent m ≡ true → (f : ℕ) → is_known m.core f ≡ true → is_spent m f ≡ true
known_spent m e f h =
    let spent : ℕ → Bool = is_spent m in
    let of_acks : Acked → Bool = λ a. list_all spent a.files in
    let all = and_parts (list_all (record_is_spent m) m.core.records && list_all spent m.core.waiting) (list_all spent m.core.taken) e in
    let first = and_parts (list_all (record_is_spent m) m.core.records) (list_all spent m.core.waiting) all.0 in
    ⊎_elim
    (λ (k : is_present (uses m.core.records) f ≡ true).
    let q : IsHeld f m.core.records = IsHeld-from_present f m.core.records k in
    let its = and_parts (list_all of_acks (q.0).acks) (list_all spent (q.0).pins) (passes_at (record_is_spent m) q.0 m.core.records first.0 q.1) in
    ⊎_elim
    (λ (a : (b : Acked) × IsIn b (q.0).acks × IsIn f b.files). passes_at spent f (a.0).files (passes_at of_acks a.0 (q.0).acks its.0 a.1) a.2)
    (λ (p : IsIn f (q.0).pins). passes_at spent f (q.0).pins its.1 p)
    q.2)
    (λ (k : in_outbox m.core f ≡ true).
    ⊎_elim
    (λ (w : IsIn f m.core.waiting). passes_at spent f m.core.waiting first.1 w)
    (λ (t : IsIn f m.core.taken). passes_at spent f m.core.taken all.1 t)
    (IsIn-append_cases f m.core.waiting m.core.taken (IsIn-from_test f (m.core.waiting ++ m.core.taken) k)))
    (or_cases (is_present (uses m.core.records) f) (in_outbox m.core f) h)

-- the same the other way round
spent_known : (m : Fenced) → ((f : ℕ) → is_known m.core f ≡ true → is_spent m f ≡ true) → all_are_spent m ≡ true
spent_known m h =
    let spent : ℕ → Bool = is_spent m in
    let held : (f : ℕ) → IsHeld f m.core.records → is_spent m f ≡ true = λ f k. h f (known-from_present m.core f (present-from_IsHeld f m.core.records k)) in
    let of_record : (r : Record) → IsIn r m.core.records → record_is_spent m r ≡ true = λ r there.
    and_from (list_all (λ a. list_all spent a.files) r.acks) (list_all spent r.pins)
    (pass_all (λ a. list_all spent a.files) r.acks (λ a k. pass_all spent a.files (λ f l. held f (r, there, inl (a, k, l)))))
    (pass_all spent r.pins (λ f l. held f (r, there, inr l))) in
    and_from (list_all (record_is_spent m) m.core.records && list_all spent m.core.waiting) (list_all spent m.core.taken)
    (and_from (list_all (record_is_spent m) m.core.records) (list_all spent m.core.waiting)
    (pass_all (record_is_spent m) m.core.records of_record)
    (pass_all spent m.core.waiting (λ f k. h f (known-from_outbox m.core f (IsIn-append_left f m.core.waiting m.core.taken k)))))
    (pass_all spent m.core.taken (λ f k. h f (known-from_outbox m.core f (IsIn-append_right f m.core.waiting m.core.taken k))))

-- what is tested of the layer of an image
pub record IsTested (m : Fenced) : Type 0 where
  pub term_from : 1 ≤ m.term
  pub term_to : m.term ≤ 2 ^ 62
  pub names_from : 1 ≤ m.next_name
  pub names_to : m.next_name ≤ 2 ^ 62
  pub ended : is_cancelled m.core.mode ≡ true → m.unspent ≡ []
  pub ascending : IsAscendingSet m.unspent
  pub reserved : (f : ℕ) → IsIn f m.unspent → f < m.next_name
  pub files : all_are_spent m ≡ true

pub tested_fenced : (m : Fenced) → IsTested m → IsSound m.core → IsFenced m
tested_fenced m t sound =
    let its : (f : ℕ) → is_known m.core f ≡ true → (ltb f m.next_name ≡ true) × (not (is_unspent m f) ≡ true) =
    λ f h. and_parts (ltb f m.next_name) (not (is_unspent m f)) (known_spent m t.files f h) in
    record {
      core = sound;
      term_from = t.term_from;
      term_to = t.term_to;
      names_from = t.names_from;
      names_to = t.names_to;
      known = λ f h. ltb-true f m.next_name (its f h).0;
      reserved = t.reserved;
      apart = λ f h. ⊎_elim (λ (k : is_known m.core f ≡ true). absurd (both_ways (not (is_unspent m f)) (not_from_true (is_unspent m f) (test-from_IsIn f m.unspent h)) (its f k).1))
          (λ (k : is_known m.core f ≡ false). k) (cases_Bool (is_known m.core f));
      ascending = t.ascending;
      ended = t.ended;
    }

-- a sound layer passes the test of the files
pub fenced_tested : (m : Fenced) → IsFenced m → all_are_spent m ≡ true
fenced_tested m i = spent_known m (λ f h. and_from (ltb f m.next_name) (not (is_unspent m f)) (lt-ltb f m.next_name (i.known f h)) (not_from_false (is_unspent m f) (free f h)))
  where
    free : (f : ℕ) → is_known m.core f ≡ true → is_unspent m f ≡ false
    free f h = ⊎_elim (λ (k : is_unspent m f ≡ true). absurd (both_ways (is_known m.core f) (i.apart f (IsIn-from_test f m.unspent k)) h)) (λ (k : is_unspent m f ≡ false). k)
        (cases_Bool (is_unspent m f))

-- what is saved is the state with the fetched files in ascending order
pub saved_is : (m : Fenced) (core : State) (term next : ℕ) (names : List ℕ) → core ≡ settled m.core → term ≡ m.term → next ≡ m.next_name → names ≡ m.unspent
    → layer core term next names ≡ fenced_settled m
saved_is m core term next names a b c d =
    ap (λ (k : State). layer k term next names) a ∙ ap (λ (t : ℕ). layer (settled m.core) t next names) b ∙ ap (λ (n : ℕ). layer (settled m.core) m.term n names) c
    ∙ ap (λ (xs : List ℕ). layer (settled m.core) m.term m.next_name xs) d

-- so it can be opened
pub saved_can_hold : (m k : Fenced) → k ≡ fenced_settled m → CanHold k.core → IsFenced m → CanHoldFenced k
saved_can_hold m k e h i =
    let core : CanHold (settled m.core) = subst CanHold (ap (λ (x : Fenced). x.core) e) h in
    subst CanHoldFenced (sym e) (record { core = core; fenced = settled_fenced m core.sound i })
