-- The missing acknowledgements of one record come to the same in every order.
use Rattle.ckpt_model.proofs.Names.{◌≡◌, ℕ, ◌+◌, ◌≤◌, Bool, true, false, List, [], ◌∷◌, ◌++◌, map, refl, sym, ap, inl, inr, arith, count_by, Option, option_or, is_some, both_ways, Call, Answer, IsIn}
use Rattle.ckpt_model.proofs.Names.{Record, count_by-cons, count_by_no, IsIn-append_right, State, step, replay, answers, IsSound, SameBySeat, NewFile, ack_with, AreApart, first_completed}
use Rattle.ckpt_model.proofs.Names.{is_completing, AnyOrder, common_steps}
use Rattle.ckpt_model.proofs.Records.{count_by_at_most_more}
use Rattle.ckpt_model.proofs.Soundness.Calls.{step_keeps}
use Rattle.ckpt_model.proofs.Reordering.Rearranged.{Rearranged, IsIn-midst, IsIn-rearranged, Rearranged-map, Rearranged-from_map, rearranged_by_seat, count_by-rearranged}
use Rattle.ckpt_model.proofs.Reordering.NewFiles.{Awaits, Exchanged, awaits_after, not_completing, exchanged_new}

-- the first completion

-- of two of which one is none, either comes first
option_or-swap : {X : Type 0} (o p q : Option X) → (is_some o ≡ true → is_some p ≡ true → ⊥) → option_or o (option_or p q) ≡ option_or p (option_or o q)
option_or-swap o p q h3 = grind (arith, common_steps)

-- an answer in the middle, if at most one completes
first-midst : (a : Answer) (front back : List Answer) → count_by is_completing (a ∷ front ++ back) ≤ 1 → first_completed (front ++ a ∷ back) ≡ first_completed (a ∷ front ++ back)
first-midst a [] back once = grind (arith, common_steps)
first-midst a (b ∷ front) back once = grind (arith, common_steps, first-midst a front back)

-- if at most one completes, the order does not matter
first-rearranged : (xs ys : List Answer) → Rearranged xs ys → count_by is_completing xs ≤ 1 → first_completed xs ≡ first_completed ys
first-rearranged [] ys e once = grind (arith, common_steps)
first-rearranged (a ∷ xs) ys r once = grind (arith, common_steps, count_by-cons, count_by-rearranged, first-midst, first-rearranged xs)

pub same_completed_by_seat : (xs ys : List (ℕ × Answer)) → SameBySeat xs ys → count_by is_completing (map (λ (x : ℕ × Answer). x.1) xs) ≤ 1
    → first_completed (map (λ (x : ℕ × Answer). x.1) xs) ≡ first_completed (map (λ (x : ℕ × Answer). x.1) ys)
same_completed_by_seat xs ys same once = grind (arith, common_steps, Rearranged-map, first-rearranged, rearranged_by_seat)

-- what two lists of calls come to

record Same (m : State) (xs ys : List Call) : Type 0 where
  state : replay m xs ≡ replay m ys
  as_often : (asked : Answer → Bool) → count_by asked (answers m xs) ≡ count_by asked (answers m ys)
  completed : first_completed (answers m xs) ≡ first_completed (answers m ys)

same_itself : (m : State) (xs ys : List Call) → xs ≡ ys → Same m xs ys
same_itself m xs ys e = grind (arith, common_steps)

same_chain : {m : State} {xs ys zs : List Call} → Same m xs ys → Same m ys zs → Same m xs zs
same_chain a b = grind (arith, common_steps)

-- after one call more at the start
same_later : (m : State) (call : Call) (xs ys : List Call) → Same (step m call).0 xs ys → Same m (call ∷ xs) (call ∷ ys)
same_later m call xs ys a = grind (arith, common_steps)

-- with the first two exchanged, of which the first does not complete the record
same_exchanged : (m : State) (a b : Call) (rest : List Call) → Exchanged m a b → is_completing (step m a).1 ≡ false → Same m (a ∷ b ∷ rest) (b ∷ a ∷ rest)
same_exchanged m a b rest x pending = grind (arith, common_steps, count_by-cons, option_or-swap, both_ways)

-- lists of new files

abbrev Differ : NewFile → NewFile → Type 0
Differ n o = (n.subtask ≡ o.subtask → ⊥) × (n.file ≡ o.file → ⊥)

differ_back : (n o : NewFile) → Differ n o → Differ o n
differ_back n o d = (λ e. d.0 (sym e), λ e. d.1 (sym e))

apart-midst : (n : NewFile) (front back : List NewFile) → AreApart (front ++ back) → ((o : NewFile) → IsIn o (front ++ back) → Differ n o) → AreApart (front ++ n ∷ back)
apart-midst n [] back a differ = (differ, a)
apart-midst n (p ∷ front) back a differ = (
  λ o h. let turned = differ_back n p (differ p (inl refl)) in
      grind (arith, common_steps, turned, a.0 o, IsIn-midst o n front back h),
  apart-midst n front back a.1 (λ o h. differ o (inr h)),
)

apart-rearranged : (xs ys : List NewFile) → AreApart xs → Rearranged xs ys → AreApart ys
apart-rearranged [] ys a e = rw e a
apart-rearranged (n ∷ xs) ys a r = rw r.2 (apart-midst n r.0 r.1 (apart-rearranged xs ((r.0) ++ r.1) a.1 r.3) (λ o h. a.0 o (IsIn-rearranged o xs ((r.0) ++ r.1) r.3 h)))

-- each is awaited
abbrev AreAwaited : State → ℕ → List NewFile → Type 0
AreAwaited m id news = (n : NewFile) → IsIn n news → Awaits m id n

abbrev acks : ℕ → ℕ → List NewFile → List Call
acks now id news = map (ack_with now id) news

still_awaited : (m : State) (now id : ℕ) (n : NewFile) (news : List NewFile) → IsSound m → AreAwaited m id (n ∷ news) → AreApart (n ∷ news) → AreAwaited (step m (ack_with now id n)).0 id news
still_awaited m now id n news s w a o h = awaits_after m now id n o s (w n (inl refl)) (w o (inr h)) (a.0 o h).0

-- the one in the midst comes first
to_front : (m : State) (now id : ℕ) (n : NewFile) (front back : List NewFile) → IsSound m → AreAwaited m id (front ++ n ∷ back) → AreApart (front ++ n ∷ back)
    → Same m (acks now id (n ∷ front ++ back)) (acks now id (front ++ n ∷ back))
to_front m now id n [] back s w a = same_itself m _ _ refl
to_front m now id n (p ∷ front) back s w a =
    let P : Call = ack_with now id p in
    let there : IsIn n (front ++ n ∷ back) = IsIn-append_right n front (n ∷ back) (inl refl) in
    let d : Differ n p = differ_back p n (a.0 n there) in
    let later = to_front (step m P).0 now id n front back (step_keeps m P tt s) (still_awaited m now id p (front ++ n ∷ back) s w a) a.1 in
    same_chain (same_exchanged m (ack_with now id n) P _ (exchanged_new m now id n p s (w n (inr there)) (w p (inl refl)) d.0 d.1)
    (not_completing m now id n p (w n (inr there)) (w p (inl refl)) d.0)) (same_later m P _ _ later)

-- in whatever order
same_rearranged : (m : State) (now id : ℕ) (xs ys : List NewFile) → IsSound m → AreAwaited m id xs → AreApart xs → Rearranged xs ys → Same m (acks now id xs) (acks now id ys)
same_rearranged m now id [] ys s w a e = same_itself m [] (acks now id ys) (ap (acks now id) (sym e))
same_rearranged m now id (n ∷ xs) ys s w a r =
    let rest : List NewFile = (r.0) ++ (r.1) in
    let whole : List NewFile = (r.0) ++ n ∷ r.1 in
    let turned : Rearranged (n ∷ xs) whole = (r.0, r.1, refl, r.3) in
    let later = same_rearranged (step m (ack_with now id n)).0 now id xs rest (step_keeps m (ack_with now id n) tt s) (still_awaited m now id n xs s w a) a.1 r.3 in
    let front = to_front m now id n r.0 r.1 s (λ o h. w o (IsIn-rearranged o (n ∷ xs) whole turned h)) (apart-rearranged (n ∷ xs) whole a turned) in
    grind (arith, common_steps, same_chain, same_later) steps 1000000

-- at most one completes the record
at_most_one : (m : State) (now id : ℕ) (xs : List NewFile) → IsSound m → AreAwaited m id xs → AreApart xs → count_by is_completing (answers m (acks now id xs)) ≤ 1
at_most_one m now id [] s w a = omega arith
at_most_one m now id (n ∷ []) s w a = count_by_at_most_more is_completing (step m (ack_with now id n)).1 []
at_most_one m now id (n ∷ o ∷ xs) s w a =
    let N : Call = ack_with now id n in
    let rest = at_most_one (step m N).0 now id (o ∷ xs) (step_keeps m N tt s) (still_awaited m now id n (o ∷ xs) s w a) a.1 in
    let not_here = not_completing m now id n o (w n (inl refl)) (w o (inr (inl refl))) (a.0 o (inl refl)).0 in
    omega (arith, rest, count_by_no is_completing (step m N).1 (answers (step m N).0 (acks now id (o ∷ xs))) not_here)

pub any_order : (m : State) (now id : ℕ) (r : Record) (news : List NewFile) (given made : List (ℕ × Call)) → IsSound m → AnyOrder m now id r news given made
any_order m now id r news given made s found missing apart is same =
    let value : ℕ × Call → Call = λ x. x.1 in
    grind (arith, common_steps, Rearranged-from_map, Rearranged-map value given made, rearranged_by_seat given made same, same_rearranged m now id news, at_most_one m now id news s) steps 1000000
