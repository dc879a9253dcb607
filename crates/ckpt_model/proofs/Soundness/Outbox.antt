-- Fetching files, and what is reported of them, keeps a coordinator sound.
use Rattle.ckpt_model.proofs.Names.{common_steps, arith, ◌≡◌, ℕ, true, not, eqb, List, [], ◌∷◌, ◌++◌, list_any, not-true, eqb-true, eqb-false, take-append-drop, IsIn, AreDistinct, Record}
use Rattle.ckpt_model.proofs.Names.{IsIn-append_left, IsIn-append_right, IsIn-append_cases, IsIn-from_filter, IsIn-from_list_any, AreDistinct-append, AreDistinct-left, AreDistinct-right}
use Rattle.ckpt_model.proofs.Names.{AreDistinct-apart, AreDistinct-filter, only_one, State, take_files, without, IsSound}
use Rattle.ckpt_model.proofs.Records.{IsSoundOutbox, sound_from, outbox_of}

-- the outbox alone is changed
pub outbox_is_sound : (m : State) (waiting taken : List ℕ) → IsSound m → IsSoundOutbox m.records waiting taken → IsSound (record m { waiting = waiting; taken = taken })
outbox_is_sound m waiting taken s o =
    sound_from (record m { waiting = waiting; taken = taken }) (grind (arith, common_steps)) s.records o

-- the prefix moves behind the end
outbox_rotated : (rs : List Record) (xs ys taken : List ℕ) → IsSoundOutbox rs (xs ++ ys) taken → IsSoundOutbox rs ys (taken ++ xs)
outbox_rotated rs xs ys taken o =
    let behind : AreDistinct (taken ++ xs) =
    AreDistinct-append taken xs (AreDistinct-right (xs ++ ys) taken o.apart) (AreDistinct-left xs ys (AreDistinct-left (xs ++ ys) taken o.apart))
    (λ f t h. AreDistinct-apart (xs ++ ys) taken o.apart f (IsIn-append_left f xs ys h) t) in
    record {
      unused = λ f h. let cases = IsIn-append_cases f ys (taken ++ xs) h in
          let right = IsIn-append_right f (xs ++ ys) taken in
          let left = IsIn-append_left f (xs ++ ys) taken in
          grind (arith, common_steps, o.unused f, left, right, IsIn-append_left f xs ys, IsIn-append_right f xs ys, IsIn-append_cases f taken xs, cases);
      apart = grind (arith, common_steps, AreDistinct-append, AreDistinct-right, AreDistinct-apart, AreDistinct-left, o.apart, IsIn-append_right, IsIn-append_cases);
    }

-- a Take
pub take_is_sound : (m : State) (most : ℕ) → IsSound m → IsSound (take_files m most).0
unfolding take_files
take_is_sound m most s = grind (arith, common_steps, take-append-drop most m.waiting, outbox_of s, outbox_is_sound m, outbox_rotated m.records)

-- without a file, of which there was one at most
outbox_without : (rs : List Record) (f : ℕ) (waiting taken : List ℕ) → IsSoundOutbox rs waiting taken → IsSoundOutbox rs waiting (without f taken)
outbox_without rs f waiting taken o =
    let fewer : (g : ℕ) → IsIn g (without f taken) → IsIn g taken = λ g h. (IsIn-from_filter (λ x. not (eqb x f)) g taken h).0 in
    record {
      unused = λ g h. grind (arith, common_steps, o.unused g, IsIn-append_left g waiting taken, IsIn-append_right g waiting taken, fewer g, IsIn-append_cases g waiting (without f taken) h);
      apart = AreDistinct-append waiting (without f taken) (AreDistinct-left waiting taken o.apart) (AreDistinct-filter _ taken (AreDistinct-right waiting taken o.apart))
          (λ g h k. AreDistinct-apart waiting taken o.apart g h (fewer g k));
    }

-- the file goes back to the end of those that wait
outbox_back : (rs : List Record) (f : ℕ) (waiting taken : List ℕ) → IsSoundOutbox rs waiting taken → IsIn f taken → IsSoundOutbox rs (waiting ++ f ∷ []) (without f taken)
outbox_back rs f waiting taken o there =
    let w = outbox_without rs f waiting taken o in
    let back : (g : ℕ) → g ≡ f → IsIn g taken = λ g e. rw e there in
    let front : AreDistinct (waiting ++ f ∷ []) =
    AreDistinct-append waiting (f ∷ []) (AreDistinct-left waiting taken o.apart) (λ n. n, tt) (λ g h k. AreDistinct-apart waiting taken o.apart g h (back g (only_one g f k))) in
    let gone : (g : ℕ) → IsIn g (without f taken) → g ≡ f → ⊥ = λ g h. eqb-false g f (not-true (eqb g f) (IsIn-from_filter (λ x. not (eqb x f)) g taken h).1) in
    record {
      unused = λ g h.
          let cases = IsIn-append_cases g (waiting ++ f ∷ []) (without f taken) h in
          let right = IsIn-append_right g waiting (without f taken) in
          grind (arith, common_steps, o.unused g, IsIn-append_left g waiting taken, IsIn-append_right g waiting taken, IsIn-append_cases g waiting (f ∷ []), back g, w.unused g, right, cases);
      apart = AreDistinct-append (waiting ++ f ∷ []) (without f taken) front (AreDistinct-right waiting (without f taken) w.apart)
          (λ g h k. grind (arith, common_steps, AreDistinct-apart waiting (without f taken) w.apart g, gone g, IsIn-append_cases g waiting (f ∷ []) h));
    }

-- a Deleted
pub deleted_is_sound : (m : State) (file : ℕ) → IsSound m → IsSound (record m { taken = without file m.taken })
deleted_is_sound m file s = outbox_is_sound m m.waiting (without file m.taken) s (outbox_without m.records file m.waiting m.taken (outbox_of s))

-- an Undeleted of a fetched file
pub undeleted_is_sound : (m : State) (file : ℕ) → IsSound m → list_any (λ f. eqb f file) m.taken ≡ true → IsSound (record m { taken = without file m.taken; waiting = m.waiting ++ file ∷ [] })
undeleted_is_sound m file s there = grind (arith, common_steps, IsIn-from_list_any, outbox_is_sound m (m.waiting ++ file ∷ []), outbox_back m.records file m.waiting m.taken, outbox_of s, eqb-true)
