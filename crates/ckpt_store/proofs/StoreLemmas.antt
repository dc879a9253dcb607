-- A store stays one through each change.
use Rattle.ckpt_store.proofs.Names.{common_steps, ◌≡◌, ℕ, ◌+◌, ◌-◌, ◌^◌, ◌<◌, ◌≤◌, Bool, true, false, not, List, [], ◌∷◌, ◌++◌, length, drop, refl, ap, ◌∙◌, inr, ⊎_elim, arith, ◌&&◌, Option, Some}
use Rattle.ckpt_store.proofs.Names.{None, IfSome, length-append, filter, slice_get, list_any, find, lt-ltb, or_right, length-filter_both, Kind, IsIn, put, LiesAt, Record, IsIn-append_cases}
use Rattle.ckpt_store.proofs.Names.{IsIn-put_cases, IsIn-from_filter, IsInOrder-append, IsInOrder-filter, IsInOrder-put_between, list_any-from_IsIn, find-none, some_at, numbers_in_order, IsDone}
use Rattle.ckpt_store.proofs.Names.{list_any-put, list_any-filter, list_any_same, Stored, IsStored, by_id, AreRising, AreDone, IsAbove, has_id, id_of, has_savepoint, record_of}
use Rattle.ckpt_store.proofs.RowLemmas.{find-place}
use Rattle.ckpt_ids.proofs.OrderedLemmas.{only_one}
use Rattle.std.proofs.lemmas.Bool.Decides.{nat_tests}
use Rattle.ckpt_ids.specs.declared.numbers.Kind.TheVariants as kind

-- rows

AreRising-push : (row : List Record) (done : Record) → AreRising row → IsAbove row done.id → AreRising (row ++ done ∷ [])
AreRising-push row done a above =
    IsInOrder-append by_id row (done ∷ []) a (tt, tt) (λ x y h k. rw (only_one y done k) (lt-ltb x.id done.id (above x h)))

AreDone-push : (k : Kind) (row : List Record) (done : Record) → AreDone k row → IsDone done → done.kind ≡ k → AreDone k (row ++ done ∷ [])
AreDone-push k row done a d e = λ r h. grind (arith, common_steps, a r, IsIn-append_cases r row (done ∷ []) h)

pub AreRising-drop : (row : List Record) → AreRising row → AreRising (drop 1 row)
AreRising-drop [] a = tt
AreRising-drop (r ∷ row) a = a.1

pub IsIn-from_drop : (r : Record) (row : List Record) → IsIn r (drop 1 row) → IsIn r row
IsIn-from_drop r [] h = h
IsIn-from_drop r (q ∷ row) h = inr h

pub length-drop_one : (row : List Record) → length (drop 1 row) ≡ length row - 1
length-drop_one [] = refl
length-drop_one (r ∷ row) = omega arith

length-put : (x : Record) (row : List Record) → length (put by_id x row) ≡ length row + 1
length-put x [] = refl
length-put x (r ∷ row) = grind (arith, length-put x row)

-- what holds of a base

IfSome_map : {X : Type 0} (o : Option X) (P Q : X → Type 0) → ((x : X) → o ≡ Some x → P x → Q x) → IfSome o P → IfSome o Q
IfSome_map None P Q f h = tt
IfSome_map (Some x) P Q f h = f x refl h

-- changes

pub IsStored-spare : (s : Stored) (spare : ℕ) → IsStored s → IsStored (record s { spare = spare })
IsStored-spare s spare h = grind arith

-- row is what stays of the checkpoints
pub IsStored-complete : (s : Stored) (row : List Record) (done : Record) (spare : ℕ) → IsStored s → AreRising row → ((r : Record) → IsIn r row → IsIn r s.checkpoints) → length row + 1 ≤ s.retained
    → IsDone done → done.kind ≡ kind.Checkpoint → IsAbove s.checkpoints done.id → IsStored (record s { checkpoints = row ++ done ∷ []; base = None; spare = spare })
IsStored-complete s row done spare h rises within few d e above =
    let l : length (row ++ done ∷ []) ≡ length row + 1 = length-append row (done ∷ []) in
    let rise : AreRising (row ++ done ∷ []) = AreRising-push row done rises (λ r m. above r (within r m)) in
    let all : AreDone kind.Checkpoint (row ++ done ∷ []) = AreDone-push kind.Checkpoint row done (λ r m. h.checkpoints_done r (within r m)) d e in
    grind arith

pub IsStored-drop : (s : Stored) (spare : ℕ) → IsStored s → IsStored (record s { checkpoints = drop 1 s.checkpoints; spare = spare })
IsStored-drop s spare h =
    let rise : AreRising (drop 1 s.checkpoints) = AreRising-drop s.checkpoints h.checkpoints_rise in
    let done : AreDone kind.Checkpoint (drop 1 s.checkpoints) = λ r m. h.checkpoints_done r (IsIn-from_drop r s.checkpoints m) in
    grind (arith, length-drop_one s.checkpoints)

pub IsStored-add : (s : Stored) (done : Record) (spare : ℕ) → IsStored s → IsDone done → done.kind ≡ kind.Savepoint → has_savepoint s done.id ≡ false → length s.savepoints + 1 < 2 ^ 32
    → IsStored (record s { savepoints = put by_id done s.savepoints; spare = spare })
IsStored-add s done spare h d e absent few =
    let turns : (r : Record) → IsIn r s.savepoints → by_id r done ≡ false → by_id done r ≡ true = λ r m t.
    grind (arith, common_steps, list_any-from_IsIn (has_id done.id) r s.savepoints m, numbers_in_order.total r.id done.id t) in
    let stays : (id : ℕ) → s.base ≡ Some id → has_savepoint s id ≡ true → list_any (has_id id) (put by_id done s.savepoints) ≡ true = λ id q there.
    list_any-put (has_id id) by_id done s.savepoints ∙ or_right (has_id id done) (list_any (has_id id) s.savepoints) there in
    let rise : AreRising (put by_id done s.savepoints) = IsInOrder-put_between by_id (λ x y z. numbers_in_order.transitive x.id y.id z.id) done s.savepoints turns h.savepoints_rise in
    let all : AreDone kind.Savepoint (put by_id done s.savepoints) = λ r m. ⊎_elim (λ same. rw same (d, e)) (λ k. h.savepoints_done r k) (IsIn-put_cases by_id done r s.savepoints m) in
    let base = IfSome_map s.base (λ id. has_savepoint s id ≡ true) (λ id. list_any (has_id id) (put by_id done s.savepoints) ≡ true) stays h.base_is_savepoint in
    grind (arith, length-put done s.savepoints)

twice : (b : Bool) → b ≡ not (not b)
twice true = refl
twice false = refl

pub IsStored-dispose : (s : Stored) (id spare : ℕ) → IsStored s → (s.base ≡ Some id → ⊥) → IsStored (record s { savepoints = filter (λ r. not (has_id id r)) s.savepoints; spare = spare })
IsStored-dispose s id spare h unused =
    let keep : Record → Bool = λ r. not (has_id id r) in
    let stays : (b : ℕ) → s.base ≡ Some b → has_savepoint s b ≡ true → list_any (has_id b) (filter keep s.savepoints) ≡ true = λ b e there.
    let ne : b ≡ id → ⊥ = λ same. unused (e ∙ ap (λ x. Some x) same) in
    list_any-filter (has_id b) keep s.savepoints ∙ list_any_same (λ r. has_id b r && keep r) (has_id b) s.savepoints (λ r. grind (arith, nat_tests)) ∙ there in
    let rise : AreRising (filter keep s.savepoints) = IsInOrder-filter by_id keep s.savepoints h.savepoints_rise in
    let all : AreDone kind.Savepoint (filter keep s.savepoints) = λ r m. h.savepoints_done r (IsIn-from_filter keep r s.savepoints m).0 in
    let base = IfSome_map s.base (λ b. has_savepoint s b ≡ true) (λ b. list_any (has_id b) (filter keep s.savepoints) ≡ true) stays h.base_is_savepoint in
    grind (arith, length-filter_both keep (has_id id) (λ r. twice (has_id id r)) s.savepoints)

-- what is found

pub record_of_place : (s : Stored) (id place : ℕ) → AreRising s.checkpoints → LiesAt id_of id s.checkpoints place → slice_get s.checkpoints place ≡ record_of s id
record_of_place s id place a h = grind (arith, common_steps, find-place id s.checkpoints place a h, some_at s.checkpoints place h.0)

pub record_of_later : (s : Stored) (id : ℕ) → list_any (has_id id) s.checkpoints ≡ false → find (has_id id) s.savepoints ≡ record_of s id
record_of_later s id h = grind (arith, common_steps, find-none (has_id id) s.checkpoints h)
