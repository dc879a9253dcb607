-- The JSON of a state has no float, so its text is known. It is not deep, so it is read.
use Rattle.ckpt_image.proofs.Names.{◌≡◌, ℕ, suc, ◌≤◌, false, List, [], ◌∷◌, map, refl, arith, None, Some, Option, max, Acked, Configuration, Record, Opening, State, members, natural, Data, null}
use Rattle.ckpt_image.proofs.Names.{boolean, number, string, array, object, Members, member, no_members, depth, items_depth, members_depth, max_depth, items_of, has_float, ack_data, clock_data}
use Rattle.ckpt_image.proofs.Names.{config_data, image_data, image_members, naturals, opening_data, optional, outbox_data, record_data}
use Rattle.ckpt_answers.proofs.NoFloats.{no_floats, numbers}

-- ---- no float

optionals : (o : Option ℕ) → has_float (optional o) ≡ false
optionals None = refl
optionals (Some n) = refl

ack : (a : Acked) → has_float (ack_data a) ≡ false
unfolding ack_data
ack a = rw (numbers a.files) refl

one_record : (r : Record) → has_float (record_data r) ≡ false
unfolding record_data
one_record r = rw (no_floats ack_data r.acks ack, numbers r.pins, numbers r.shape) refl

config : (c : Configuration) → has_float (config_data c) ≡ false
unfolding config_data
config c = refl

opening : (o : Opening) → has_float (opening_data o) ≡ false
unfolding opening_data
opening o = rw (config o.config, numbers o.shape) refl

clock : (m : State) → has_float (clock_data m) ≡ false
unfolding clock_data
clock m = rw (optionals m.completed) refl

outbox : (m : State) → has_float (outbox_data m) ≡ false
unfolding outbox_data
outbox m = rw (numbers m.taken, numbers m.waiting) refl

pub members_have_no_float : (format : ℕ) (m : State) → has_float (object (members (image_members format m))) ≡ false
members_have_no_float format m = rw (optionals m.base, clock m, opening m.opening, outbox m, no_floats record_data m.records one_record, numbers m.shape) refl

pub image_has_no_float : (m : State) → has_float (image_data m) ≡ false
unfolding image_data
image_has_no_float m = members_have_no_float 1 m

-- ---- how deep

most : (a b k : ℕ) → a ≤ k → b ≤ k → max a b ≤ k
most a b k h i = omega arith

pub shallow_items : {X : Type 0} (k : ℕ) (shown : X → Data) (xs : List X) → ((x : X) → depth (shown x) ≤ k) → items_depth (items_of (map shown xs)) ≤ k
shallow_items k shown [] h = omega arith
shallow_items k shown (x ∷ xs) h = most (depth (shown x)) (items_depth (items_of (map shown xs))) k (h x) (shallow_items k shown xs h)

-- no member nests deeper than this
abbrev Reach : ℕ → Members → Type 0
Reach k no_members = Unit {0}
Reach k (member key d ms) = (depth d ≤ k) × Reach k ms

shallow_members : (k : ℕ) (ms : Members) → Reach k ms → members_depth ms ≤ k
shallow_members k no_members h = omega arith
shallow_members k (member key d ms) h = most (depth d) (members_depth ms) k h.0 (shallow_members k ms h.1)

abbrev members_in : Data → Members
members_in null = no_members
members_in (boolean b) = no_members
members_in (number n) = no_members
members_in (string s) = no_members
members_in (array ds) = no_members
members_in (object ms) = ms

deeper : (a k : ℕ) → a ≤ k → suc a ≤ suc k
deeper a k h = omega arith

object_depth : (k : ℕ) (ms : Members) → Reach k ms → depth (object ms) ≤ suc k
object_depth k ms h = deeper (members_depth ms) k (shallow_members k ms h)

list_depth : (ns : List ℕ) (k : ℕ) → depth (naturals ns) ≤ suc k
list_depth ns k = deeper (items_depth (items_of (map natural ns))) k (shallow_items k natural ns (λ n. omega arith))

none_deep : (k : ℕ) → 0 ≤ k
none_deep k = omega arith

optional_depth : (o : Option ℕ) (k : ℕ) → depth (optional o) ≤ k
optional_depth None k = none_deep k
optional_depth (Some n) k = none_deep k

ack_depth : (a : Acked) → depth (ack_data a) ≤ 2
unfolding ack_data
ack_depth a = object_depth 1 (members_in (ack_data a)) (list_depth a.files 0, (none_deep 1, (none_deep 1, tt)))

record_depth : (r : Record) → depth (record_data r) ≤ 4
unfolding record_data
record_depth r =
    object_depth 3 (members_in (record_data r)) (
      deeper (items_depth (items_of (map ack_data r.acks))) 2 (shallow_items 2 ack_data r.acks ack_depth),
      (none_deep 3, (none_deep 3, (list_depth r.pins 2, (list_depth r.shape 2, (none_deep 3, (none_deep 3, tt)))))),
    )

config_depth : (c : Configuration) → depth (config_data c) ≤ 5
unfolding config_data
config_depth c = object_depth 4 (members_in (config_data c)) (none_deep 4, (none_deep 4, (none_deep 4, (none_deep 4, (none_deep 4, (none_deep 4, (none_deep 4, tt)))))))

opening_depth : (o : Opening) → depth (opening_data o) ≤ 6
unfolding opening_data
opening_depth o = object_depth 5 (members_in (opening_data o)) (config_depth o.config, (none_deep 5, (list_depth o.shape 4, (none_deep 5, tt))))

clock_depth : (m : State) → depth (clock_data m) ≤ 6
unfolding clock_data
clock_depth m = object_depth 5 (members_in (clock_data m)) (optional_depth m.completed 5, (none_deep 5, (none_deep 5, tt)))

outbox_depth : (m : State) → depth (outbox_data m) ≤ 6
unfolding outbox_data
outbox_depth m = object_depth 5 (members_in (outbox_data m)) (list_depth m.taken 4, (list_depth m.waiting 4, tt))

records_depth : (rs : List Record) → items_depth (items_of (map record_data rs)) ≤ 5
records_depth rs = shallow_items 5 record_data rs (λ r. let four : depth (record_data r) ≤ 4 = record_depth r in omega arith)

pub image_depth : (format : ℕ) (m : State) → depth (object (members (image_members format m))) ≤ 7
image_depth format m =
    object_depth 6 (members (image_members format m)) (
      optional_depth m.base 6,
      (
        clock_depth m,
        (
          none_deep 6,
          (
            none_deep 6,
            (
              none_deep 6,
              (
                opening_depth m.opening,
                (
                  outbox_depth m,
                  (deeper (items_depth (items_of (map record_data m.records))) 5 (records_depth m.records), (list_depth m.shape 5, (none_deep 6, tt))),
                ),
              ),
            ),
          ),
        ),
      ),
    )

pub image_is_shallow : (m : State) → depth (image_data m) ≤ max_depth
unfolding image_data
image_is_shallow m = let seven : depth (image_data m) ≤ 7 = image_depth 1 m in omega arith
