-- The metadata has no float, so its text is known.
use Rattle.ckpt_answers.proofs.Names.{◌≡◌, ℕ, false, List, [], ◌∷◌, map, refl, Acked, Metadata, Data, items_of, has_float, items_have_float, natural, ack_data, metadata_data}

-- a list has no float if none of its items has one
pub no_floats : {X : Type 0} (shown : X → Data) (xs : List X) → ((x : X) → has_float (shown x) ≡ false) → items_have_float (items_of (map shown xs)) ≡ false
no_floats shown [] h = refl
no_floats shown (x ∷ xs) h = rw (h x) (no_floats shown xs h)

pub numbers : (ns : List ℕ) → items_have_float (items_of (map natural ns)) ≡ false
numbers ns = no_floats natural ns (λ n. refl)

ack : (a : Acked) → has_float (ack_data a) ≡ false
unfolding ack_data
ack a = rw (numbers a.files) refl

pub metadata_has_no_float : (m : Metadata) → has_float (metadata_data m) ≡ false
unfolding metadata_data
metadata_has_no_float m = rw (no_floats ack_data m.acks ack, numbers m.shape) refl
