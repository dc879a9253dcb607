-- A keyed vertex, and what a restore with another number of subtasks does with its state. Lists have the oldest first.
use Rattle.std.specs.Prelude.{◌≡◌, ℕ, zero, suc, ◌<◌, ◌==◌, List, [], ◌∷◌, ◌++◌, if◌then◌else◌}
use Rattle.ckpt_ids.specs.Ordered.{IsIn}

-- A vertex whose state belongs to keys: an element changes the state of its key alone, and what is emitted for it depends
-- on that state alone.
pub record Vertex : Type 0 where
  pub key : (element : ℕ) → ℕ
  pub start : (key : ℕ) → ℕ
  pub next : (state element : ℕ) → ℕ
  pub emits : (state element : ℕ) → List ℕ

-- the state of each key
abbrev pub KeyStates : Type 0
KeyStates = ℕ → ℕ

abbrev pub after_one : Vertex → KeyStates → ℕ → KeyStates
after_one v s x k = if v.key x == k then v.next (s k) x else s k

-- the states that elements lead to
abbrev pub after : Vertex → KeyStates → List ℕ → KeyStates
after v s [] = s
after v s (x ∷ xs) = after v (after_one v s x) xs

-- what is emitted for the elements of one key
abbrev pub emitted_for : Vertex → ℕ → KeyStates → List ℕ → List ℕ
emitted_for v k s [] = []
emitted_for v k s (x ∷ xs) = (if v.key x == k then v.emits (s k) x else []) ++ emitted_for v k (after_one v s x) xs

-- the elements of one key
abbrev pub elements_of : Vertex → ℕ → List ℕ → List ℕ
elements_of v k [] = []
elements_of v k (x ∷ xs) = if v.key x == k then x ∷ elements_of v k xs else elements_of v k xs

-- SUBTASKS

-- how many subtasks the vertex has, and to which of them a key belongs
pub record Split : Type 0 where
  pub parallelism : ℕ
  pub owner : (key : ℕ) → ℕ

abbrev pub IsSplit : Split → Type 0
IsSplit split = (k : ℕ) → split.owner k < split.parallelism

-- the lists of the first n subtasks, one behind the other
abbrev pub joined : {X : Type 0} → (ℕ → List X) → ℕ → List X
joined lists zero = []
joined lists (suc n) = joined lists n ++ lists n

abbrev pub all : {X : Type 0} → Split → (ℕ → List X) → List X
all split lists = joined lists split.parallelism

-- the exchange brings each element to the subtask of its key
abbrev pub IsRouted : Vertex → Split → (ℕ → List ℕ) → Type 0
IsRouted v split took = (i x : ℕ) → IsIn x (took i) → split.owner (v.key x) ≡ i

-- RECORDS

-- a key's state in the part of a subtask
pub record Entry : Type 0 where
  pub key : ℕ
  pub state : ℕ

abbrev pub entries_of : ℕ → List Entry → List Entry
entries_of k [] = []
entries_of k (e ∷ es) = if e.key == k then e ∷ entries_of k es else entries_of k es

-- the states that a subtask begins with; a key without an entry begins from its start
abbrev pub loaded : Vertex → List Entry → KeyStates
loaded v [] k = v.start k
loaded v (e ∷ es) k = if e.key == k then e.state else loaded v es k

-- Each part of a record has the states of its subtask's keys, and entries of no other key.
pub record IsRecord (v : Vertex) (split : Split) (states : ℕ → KeyStates) (parts : ℕ → List Entry) : Type 0 where
  pub has_its : (k : ℕ) → loaded v (parts (split.owner k)) k ≡ states (split.owner k) k
  pub no_other : (i : ℕ) (e : Entry) → IsIn e (parts i) → split.owner e.key ≡ i

-- the entries of a subtask's keys
abbrev pub its_own : Split → ℕ → List Entry → List Entry
its_own split i [] = []
its_own split i (e ∷ es) = if split.owner e.key == i then e ∷ its_own split i es else its_own split i es

-- A restore with another shape: each new subtask reads all parts of the record, and keeps the entries of its keys.
abbrev pub redistributed : Split → Split → (ℕ → List Entry) → ℕ → List Entry
redistributed old new parts i = its_own new i (all old parts)

-- LAWS

-- Each key's entries go to the subtask that the key belongs to, and to no other. None is lost, and none comes twice.
abbrev pub Redistributes : Split → Split → (ℕ → List Entry) → ℕ → Type 0
Redistributes old new parts k =
    ((i : ℕ) → entries_of k (redistributed old new parts i) ≡ (if new.owner k == i then entries_of k (all old parts) else []))
    × (IsSplit new → entries_of k (all new (redistributed old new parts)) ≡ entries_of k (all old parts))

-- Two rescalings, one behind the other, are one.
abbrev pub TwiceIsOnce : Split → Split → Split → (ℕ → List Entry) → ℕ → Type 0
TwiceIsOnce old new newer parts k =
    IsSplit new
    → (i : ℕ)
    → entries_of k (redistributed new newer (redistributed old new parts) i) ≡ entries_of k (redistributed old newer parts i)

-- A restore of a vertex in another shape.
pub record Rescaling : Type 0 where
  pub vertex : Vertex
  pub old : Split
  pub new : Split
  -- the states of the old subtasks at their cuts, and their parts of the record
  pub states : ℕ → KeyStates
  pub parts : ℕ → List Entry
  -- what the old subtasks would have taken behind the record, and what the new ones took
  pub would : ℕ → List ℕ
  pub took : ℕ → List ℕ

-- the states that a new subtask begins with
abbrev pub begins : Rescaling → ℕ → KeyStates
begins it i = loaded it.vertex (redistributed it.old it.new it.parts i)

-- Each key goes on from the state that the record has for it.
abbrev pub RestoresKeys : Rescaling → ℕ → Type 0
RestoresKeys it k =
    IsSplit it.old → IsRecord it.vertex it.old it.states it.parts → begins it (it.new.owner k) k ≡ it.states (it.old.owner k) k

-- Rescaling is invisible key by key. If the new subtasks take the elements of a key that the old ones would have taken, in the
-- same order, then the key has the same state, and the same is emitted for it, by all subtasks together.
abbrev pub RescalingInvisible : Rescaling → ℕ → Type 0
RescalingInvisible it k =
    let v : Vertex = it.vertex in
    let i : ℕ = it.old.owner k in
    let j : ℕ = it.new.owner k in
    IsSplit it.old
    → IsSplit it.new
    → IsRecord v it.old it.states it.parts
    → IsRouted v it.old it.would
    → IsRouted v it.new it.took
    → all it.new (λ m. elements_of v k (it.took m)) ≡ all it.old (λ m. elements_of v k (it.would m))
    → (after v (begins it j) (it.took j) k ≡ after v (it.states i) (it.would i) k)
    × (all it.new (λ m. emitted_for v k (begins it m) (it.took m)) ≡ all it.old (λ m. emitted_for v k (it.states m) (it.would m)))
