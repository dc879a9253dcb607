-- Each key's state goes to one new subtask, and goes on there as it would have in the old one.
use Rattle.ckpt_other_cuts.proofs.Names.{common_steps, ◌≡◌, ◌≢◌, ℕ, zero, suc, ◌<◌, Bool, true, false, List, ◌∷◌, ◌++◌, ◌∙◌, refl, sym, ap, if◌then◌else◌, inl, inr, arith, [], ◌==◌, eq-eqb}
use Rattle.ckpt_other_cuts.proofs.Names.{eqb-false, eqb-true, ne_eqb, append-nil, IsIn, Entry, IsRecord, IsRouted, IsSplit, KeyStates, Redistributes, Rescaling, RescalingInvisible}
use Rattle.ckpt_other_cuts.proofs.Names.{RestoresKeys, Split, TwiceIsOnce, Vertex, after_one, all, begins, elements_of, emitted_for, entries_of, its_own, joined, loaded, redistributed}
use Rattle.ckpt_other_cuts.specs.Rescaled.{after}

-- the lists of all subtasks, if all but one have none

joined_none : {X : Type 0} (lists : ℕ → List X) (n : ℕ) → ((i : ℕ) → i < n → lists i ≡ []) → joined lists n ≡ []
joined_none lists zero none = refl
joined_none lists (suc n) none = ap (λ l. l ++ lists n) (joined_none lists n (λ i within. none i (omega arith))) ∙ none n (omega arith)

joined_one_by : {X : Type 0} (lists : ℕ → List X) (j n : ℕ) (b : Bool) → (j == n) ≡ b → j < suc n → ((i : ℕ) → j ≢ i → lists i ≡ []) → (j < n → joined lists n ≡ lists j) → joined lists n ++ lists n ≡ lists j
joined_one_by lists j n true e within none on = grind (arith, common_steps, eqb-true, joined_none)
joined_one_by lists j n false e within none on = grind (arith, common_steps, append-nil, eqb-false)

joined_one : {X : Type 0} (lists : ℕ → List X) (j n : ℕ) → j < n → ((i : ℕ) → j ≢ i → lists i ≡ []) → joined lists n ≡ lists j
joined_one lists j zero within none = absurd (omega arith)
joined_one lists j (suc n) within none = joined_one_by lists j n (j == n) refl within none (λ below. joined_one lists j n below none)

-- the entries of a key

entries_by : (b : Bool) (e : Entry) (xs ys zs : List Entry) → zs ≡ xs ++ ys → (if b then e ∷ zs else zs) ≡ (if b then e ∷ xs else xs) ++ ys
entries_by true e xs ys zs h = ap (λ l. e ∷ l) h
entries_by false e xs ys zs h = h

entries-append : (k : ℕ) (xs ys : List Entry) → entries_of k (xs ++ ys) ≡ entries_of k xs ++ entries_of k ys
entries-append k [] ys = refl
entries-append k (e ∷ xs) ys = entries_by (e.key == k) e (entries_of k xs) (entries_of k ys) (entries_of k (xs ++ ys)) (entries-append k xs ys)

entries-joined : (k : ℕ) (parts : ℕ → List Entry) (n : ℕ) → entries_of k (joined parts n) ≡ joined (λ i. entries_of k (parts i)) n
entries-joined k parts zero = refl
entries-joined k parts (suc n) = entries-append k (joined parts n) (parts n) ∙ ap (λ l. l ++ entries_of k (parts n)) (entries-joined k parts n)

no_entries_by : (k : ℕ) (e : Entry) (es : List Entry) (b : Bool) → (e.key == k) ≡ b → e.key ≢ k → entries_of k es ≡ [] → (if b then e ∷ entries_of k es else entries_of k es) ≡ []
no_entries_by k e es true same apart h = absurd (apart (eqb-true e.key k same))
no_entries_by k e es false same apart h = h

no_entries : (k : ℕ) (es : List Entry) → ((e : Entry) → IsIn e es → e.key ≢ k) → entries_of k es ≡ []
no_entries k [] none = refl
no_entries k (e ∷ es) none = no_entries_by k e es (e.key == k) refl (none e (inl refl)) (no_entries k es (λ x has. none x (inr has)))

-- those that a subtask keeps

own_entries : (split : Split) (i k : ℕ) (es : List Entry) → entries_of k (its_own split i es) ≡ (if split.owner k == i then entries_of k es else [])
own_entries split i k [] = grind (arith, common_steps)
own_entries split i k (e ∷ es) = grind (arith, common_steps, own_entries split i k es)

own_here : (split : Split) (k : ℕ) (es : List Entry) → entries_of k (its_own split (split.owner k) es) ≡ entries_of k es
own_here split k es = own_entries split (split.owner k) k es ∙ ap (λ b. if b then entries_of k es else []) (eq-eqb (split.owner k) (split.owner k) refl)

own_elsewhere : (split : Split) (i k : ℕ) (es : List Entry) → split.owner k ≢ i → entries_of k (its_own split i es) ≡ []
own_elsewhere split i k es apart = own_entries split i k es ∙ ap (λ b. if b then entries_of k es else []) (ne_eqb (split.owner k) i apart)

-- none is lost, and none comes twice
all_own : (split : Split) (k : ℕ) (es : List Entry) → IsSplit split → entries_of k (all split (λ i. its_own split i es)) ≡ entries_of k es
all_own split k es is =
    entries-joined k (λ i. its_own split i es) split.parallelism
    ∙ joined_one (λ i. entries_of k (its_own split i es)) (split.owner k) split.parallelism (is k) (λ i apart. own_elsewhere split i k es apart)
    ∙ own_here split k es

pub redistributes : (old new : Split) (parts : ℕ → List Entry) (k : ℕ) → Redistributes old new parts k
redistributes old new parts k = (λ i. own_entries new i k (all old parts), all_own new k (all old parts))

pub twice_is_once : (old new newer : Split) (parts : ℕ → List Entry) (k : ℕ) → TwiceIsOnce old new newer parts k
twice_is_once old new newer parts k is i =
    own_entries newer i k (all new (redistributed old new parts))
    ∙ ap (λ l. if newer.owner k == i then l else []) (all_own new k (all old parts) is)
    ∙ sym (own_entries newer i k (all old parts))

-- what is loaded

loaded_by : (v : Vertex) (k : ℕ) (e : Entry) (es : List Entry) (b : Bool) → (e.key == k) ≡ b → loaded v es k ≡ loaded v (entries_of k es) k
    → (if b then e.state else loaded v es k) ≡ loaded v (if b then e ∷ entries_of k es else entries_of k es) k
loaded_by v k e es true q h = sym (ap (λ b. if b then e.state else loaded v (entries_of k es) k) q)
loaded_by v k e es false q h = h

loaded_is : (v : Vertex) (k : ℕ) (es : List Entry) → loaded v es k ≡ loaded v (entries_of k es) k
loaded_is v k [] = refl
loaded_is v k (e ∷ es) = loaded_by v k e es (e.key == k) refl (loaded_is v k es)

of_record : (v : Vertex) (old : Split) (states : ℕ → KeyStates) (parts : ℕ → List Entry) (k : ℕ) → IsSplit old → IsRecord v old states parts → entries_of k (all old parts) ≡ entries_of k (parts (old.owner k))
of_record v old states parts k is record_is =
    entries-joined k parts old.parallelism
    ∙ joined_one (λ i. entries_of k (parts i)) (old.owner k) old.parallelism (is k)
    (λ i apart. no_entries k (parts i) (λ e has same. apart (ap old.owner (sym same) ∙ record_is.no_other i e has)))

pub restores_keys : (it : Rescaling) (k : ℕ) → RestoresKeys it k
restores_keys it k is record_is = grind (arith, common_steps, loaded_is, of_record, own_here)

-- a key by itself

key_after : Vertex → ℕ → List ℕ → ℕ
key_after v s [] = s
key_after v s (x ∷ xs) = key_after v (v.next s x) xs

key_emits : Vertex → ℕ → List ℕ → List ℕ
key_emits v s [] = []
key_emits v s (x ∷ xs) = v.emits s x ++ key_emits v (v.next s x) xs

after_by : (v : Vertex) (s x : ℕ) (xs : List ℕ) (b : Bool) → key_after v (if b then v.next s x else s) xs ≡ key_after v s (if b then x ∷ xs else xs)
unfolding key_after
after_by v s x xs true = refl
after_by v s x xs false = refl

after_is : (v : Vertex) (k : ℕ) (s : KeyStates) (xs : List ℕ) → after v s xs k ≡ key_after v (s k) (elements_of v k xs)
unfolding key_after
after_is v k s [] = refl
after_is v k s (x ∷ xs) = after_is v k (after_one v s x) xs ∙ after_by v (s k) x (elements_of v k xs) (v.key x == k)

emits_by : (v : Vertex) (s x : ℕ) (xs : List ℕ) (b : Bool) → (if b then v.emits s x else []) ++ key_emits v (if b then v.next s x else s) xs ≡ key_emits v s (if b then x ∷ xs else xs)
unfolding key_emits
emits_by v s x xs true = refl
emits_by v s x xs false = refl

emits_is : (v : Vertex) (k : ℕ) (s : KeyStates) (xs : List ℕ) → emitted_for v k s xs ≡ key_emits v (s k) (elements_of v k xs)
unfolding key_emits
emits_is v k s [] = refl
emits_is v k s (x ∷ xs) =
    ap (λ l. (if v.key x == k then v.emits (s k) x else []) ++ l) (emits_is v k (after_one v s x) xs)
    ∙ emits_by v (s k) x (elements_of v k xs) (v.key x == k)

-- all subtasks together

no_elements_by : (v : Vertex) (k x : ℕ) (xs : List ℕ) (b : Bool) → (v.key x == k) ≡ b → v.key x ≢ k → elements_of v k xs ≡ [] → (if b then x ∷ elements_of v k xs else elements_of v k xs) ≡ []
no_elements_by v k x xs true same apart h = absurd (apart (eqb-true (v.key x) k same))
no_elements_by v k x xs false same apart h = h

no_elements : (v : Vertex) (k : ℕ) (xs : List ℕ) → ((x : ℕ) → IsIn x xs → v.key x ≢ k) → elements_of v k xs ≡ []
no_elements v k [] none = refl
no_elements v k (x ∷ xs) none = no_elements_by v k x xs (v.key x == k) refl (none x (inl refl)) (no_elements v k xs (λ y has. none y (inr has)))

elsewhere : (v : Vertex) (split : Split) (took : ℕ → List ℕ) (k i : ℕ) → IsRouted v split took → split.owner k ≢ i → elements_of v k (took i) ≡ []
elsewhere v split took k i routed apart = no_elements v k (took i) (λ x has same. apart (ap split.owner (sym same) ∙ routed i x has))

all_elements : (v : Vertex) (split : Split) (took : ℕ → List ℕ) (k : ℕ) → IsSplit split → IsRouted v split took → all split (λ i. elements_of v k (took i)) ≡ elements_of v k (took (split.owner k))
all_elements v split took k is routed = joined_one (λ i. elements_of v k (took i)) (split.owner k) split.parallelism (is k) (λ i apart. elsewhere v split took k i routed apart)

all_emitted : (v : Vertex) (split : Split) (states : ℕ → KeyStates) (took : ℕ → List ℕ) (k : ℕ) → IsSplit split → IsRouted v split took
    → all split (λ i. emitted_for v k (states i) (took i)) ≡ key_emits v (states (split.owner k) k) (elements_of v k (took (split.owner k)))
unfolding key_emits
all_emitted v split states took k is routed =
    joined_one (λ i. emitted_for v k (states i) (took i)) (split.owner k) split.parallelism (is k)
    (λ i apart. emits_is v k (states i) (took i) ∙ ap (key_emits v (states i k)) (elsewhere v split took k i routed apart))
    ∙ emits_is v k (states (split.owner k)) (took (split.owner k))

pub rescaling_invisible : (it : Rescaling) (k : ℕ) → RescalingInvisible it k
rescaling_invisible it k is_old is_new record_is routed_old routed_new same =
    let v : Vertex = it.vertex in
    let i : ℕ = it.old.owner k in
    let j : ℕ = it.new.owner k in
    let from : begins it j k ≡ it.states i k = restores_keys it k is_old record_is in
    let elements : elements_of v k (it.took j) ≡ elements_of v k (it.would i) = sym (all_elements v it.new it.took k is_new routed_new) ∙ same ∙ all_elements v it.old it.would k is_old routed_old in (
      after_is v k (begins it j) (it.took j)
          ∙ ap (λ s. key_after v s (elements_of v k (it.took j))) from
          ∙ ap (key_after v (it.states i k)) elements
          ∙ sym (after_is v k (it.states i) (it.would i)),
      all_emitted v it.new (begins it) it.took k is_new routed_new
          ∙ ap (λ s. key_emits v s (elements_of v k (it.took j))) from
          ∙ ap (key_emits v (it.states i k)) elements
          ∙ sym (all_emitted v it.old it.states it.would k is_old routed_old),
    )
