-- The text that is written for a state is read as that state.
use Rattle.ckpt_image.proofs.Names.{◌≡◌, ℕ, ◌<◌, ◌^◌, Bool, true, false, List, [], ◌∷◌, map, refl, sym, ap, ◌∙◌, inl, inr, Some, None, Option, nat_lt, option_and_then, option_map, lt-ltb}
use Rattle.ckpt_image.proofs.Names.{Acked, AreInSubtaskOrder, Configuration, IsWithinLimits, is_within_limits, IsIn, Record, Opening, State, kind_name, list, members, natural, state_name, Data}
use Rattle.ckpt_image.proofs.Names.{object, string, items_of, AckFits, Fits, RecordFits, image_of, image_of_any_version, ack_of, acks_of, are_in_subtask_order, clock_of, config_of, each, files_of}
use Rattle.ckpt_image.proofs.Names.{kind_of, list_of, mode_of, number_below, number_of, only, opening_of, optional_of, outbox_of, saved_of, shape_of, state_of, version_of, ack_data, clock_data}
use Rattle.ckpt_image.proofs.Names.{config_data, image_data, image_members, mode_name, naturals, opening_data, optional, outbox_data, record_data}
use Rattle.ckpt_ids.specs.declared.numbers.Kind.{Kind}
use Rattle.ckpt_ids.specs.declared.numbers.Kind.TheVariants.{Checkpoint, Savepoint}
use Rattle.ckpt_ids.specs.Ascending.{IsAscending, ascending}
use Rattle.ckpt_ids.specs.Shapes.{IsShape, is_shape}
use Rattle.ckpt_ids.proofs.AscendingLemmas.{ascending_already}
use Rattle.ckpt_ids.proofs.LimitLemmas.{limits_hold, shape_holds}
use Rattle.ckpt_model.specs.declared.mode.Mode.{Mode}
use Rattle.ckpt_model.specs.declared.mode.Mode.TheVariants.{Running, Failed, Cancelled}

-- ---- values

passes : {X : Type 0} (test : X → Bool) (x : X) → test x ≡ true → only test x ≡ Some x
passes test x held = rw held refl

pub all : {X : Type 0} (one : Data → Option X) (shown : X → Data) (xs : List X) → ((x : X) → IsIn x xs → one (shown x) ≡ Some x) → each one (items_of (map shown xs)) ≡ Some xs
all one shown [] h = refl
all {X} one shown (x ∷ xs) h =
    ap (λ (o : Option X). option_and_then (λ y. option_map (λ ys. y ∷ ys) (each one (items_of (map shown xs)))) o) (h x (inl refl))
    ∙ ap (option_map (λ ys. x ∷ ys)) (all one shown xs (λ y there. h y (inr there)))

numbers : (ns : List ℕ) → list_of number_of (naturals ns) ≡ Some ns
numbers ns = all number_of natural ns (λ n there. refl)

below : (end n : ℕ) → n < end → number_below end (natural n) ≡ Some n
below end n h = passes (λ k. nat_lt k end) n (lt-ltb n end h)

optionals : (o : Option ℕ) → optional_of (optional o) ≡ Some o
optionals None = refl
optionals (Some n) = refl

files : (fs : List ℕ) → IsAscending fs → files_of (naturals fs) ≡ Some fs
unfolding files_of
files fs order = ap (option_map ascending) (numbers fs) ∙ ap (λ xs. Some xs) (sym (ascending_already fs order))

-- ---- words

kinds : (kind : Kind) → kind_of (string (kind_name kind)) ≡ Some kind
unfolding kind_of
kinds Checkpoint = refl
kinds Savepoint = refl

states : (done : Bool) → state_of (string (state_name done)) ≡ Some done
unfolding state_of
states true = refl
states false = refl

modes : (mode : Mode) → mode_of (string (mode_name mode)) ≡ Some mode
unfolding mode_of
modes Running = refl
modes Failed = refl
modes Cancelled = refl

-- ---- tests that the types keep

order_holds : (acks : List Acked) → AreInSubtaskOrder acks → are_in_subtask_order acks ≡ true
order_holds [] order = refl
order_holds (a ∷ []) order = refl
order_holds (a ∷ b ∷ acks) order = rw (order.0.0, order_holds (b ∷ acks) order.1) refl

-- ---- objects

shapes : (shape : List ℕ) → IsShape shape → shape_of (naturals shape) ≡ Some shape
unfolding shape_of
shapes shape s = ap (option_and_then (only is_shape)) (numbers shape) ∙ passes is_shape shape (shape_holds shape s)

ack : (a : Acked) → AckFits a → ack_of (ack_data a) ≡ Some a
unfolding ack_of ack_data
ack a fits = rw (files a.files fits.files, below (2 ^ 16) a.subtask.index fits.index, below (2 ^ 16) a.subtask.vertex fits.vertex) refl

all_acks : (acks : List Acked) → AreInSubtaskOrder acks → ((a : Acked) → IsIn a acks → AckFits a) → acks_of (list (map ack_data acks)) ≡ Some acks
unfolding acks_of
all_acks acks order fit =
    ap (option_and_then (only are_in_subtask_order)) (all ack_of ack_data acks (λ a there. ack a (fit a there))) ∙ passes are_in_subtask_order acks (order_holds acks order)

one_record : (r : Record) → RecordFits r → saved_of (record_data r) ≡ Some r
unfolding saved_of record_data
one_record r fits = rw (all_acks r.acks fits.order fits.acks, kinds r.kind, files r.pins fits.pins, shapes r.shape fits.shape, states r.done) refl

config : (c : Configuration) → IsWithinLimits c → config_of (config_data c) ≡ Some c
unfolding config_of config_data
config c limits = passes is_within_limits c (limits_hold c limits)

opening : (o : Opening) → IsWithinLimits o.config → IsShape o.shape → opening_of (opening_data o) ≡ Some o
unfolding opening_of opening_data
opening o limits shape = rw (config o.config limits, shapes o.shape shape) refl

clock : (m : State) → clock_of (clock_data m) ≡ Some (record { completed = m.completed; due = m.due; latest = m.latest })
unfolding clock_of clock_data
clock m = rw (optionals m.completed) refl

outbox : (m : State) → IsAscending m.taken → outbox_of (outbox_data m) ≡ Some (record { taken = m.taken; waiting = m.waiting })
unfolding outbox_of outbox_data
outbox m order = rw (files m.taken order, numbers m.waiting) refl

-- this format
this_version : version_of (natural 1) ≡ Some 1
unfolding version_of
this_version = refl

pub members_read_back : (format : ℕ) (m : State) → Fits m → image_of_any_version (object (members (image_members format m))) ≡ Some m
unfolding image_of_any_version
members_read_back format m fits =
    rw (
      optionals m.base,
      clock m,
      below (2 ^ 32) m.failures fits.failures,
      modes m.mode,
      opening m.opening fits.config fits.first_shape,
      outbox m fits.taken,
      all saved_of record_data m.records (λ r there. one_record r (fits.records r there)),
      shapes m.shape fits.shape,
    ) refl

pub image_reads_back : (m : State) → Fits m → image_of (image_data m) ≡ Some m
unfolding image_of image_data
image_reads_back m fits = rw (this_version) (members_read_back 1 m fits)
