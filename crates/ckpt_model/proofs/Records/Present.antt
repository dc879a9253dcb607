-- A file is present exactly if some record holds it, for an acknowledgement or as a pin.
use Rattle.ckpt_model.proofs.Names.{◌≡◌, ℕ, true, false, eqb, List, map, refl, ◌⊎◌, inl, inr, ⊎_elim, flat_map, cases_Bool, both_ways, eqb-true, eq-eqb, ltb-true, Acked, IsIn, acknowledges_before}
use Rattle.ckpt_model.proofs.Names.{put_ack, Record, Use, Subtask, Pin, uses, uses_of, is_present, IsIn-append_left, IsIn-append_right, IsIn-append_cases, IsIn-map, IsIn-from_map, IsIn-flat_map}
use Rattle.ckpt_model.proofs.Names.{IsIn-from_flat_map, IsIn-put_cases, IsIn-put, IsIn-put_itself, counted-from_IsIn, IsIn-from_counted, common_steps, arith}

-- a record holds a file
abbrev pub Holds : ℕ → Record → Type 0
Holds f r = ((a : Acked) × IsIn a r.acks × IsIn f a.files) ⊎ IsIn f r.pins

-- some record of a list holds it
abbrev pub IsHeld : ℕ → List Record → Type 0
IsHeld f records = (r : Record) × IsIn r records × Holds f r

-- a use of a record is of a file that it holds
pub Holds-from_use : (u : Use) (r : Record) → IsIn u (uses_of r) → Holds u.file r
Holds-from_use u r h = grind (arith, common_steps, IsIn-from_flat_map, IsIn-from_map, IsIn-append_cases u)

-- a file that a record holds has a use
pub use-from_Holds : (f : ℕ) (r : Record) → Holds f r → (u : Use) × IsIn u (uses_of r) × (u.file ≡ f)
use-from_Holds f r (inl h) =
    let of_ack : Acked → List Use = λ a. map (λ g. record { id = r.id; holder = Subtask a.subtask; file = g }) a.files in
    let pin : ℕ → Use = λ g. record { id = r.id; holder = Pin; file = g } in
    let of_file : ℕ → Use = λ g. record { id = r.id; holder = Subtask (h.0).subtask; file = g } in
    (of_file f, IsIn-append_left (of_file f) (flat_map of_ack r.acks) (map pin r.pins) (IsIn-flat_map of_ack h.0 (of_file f) r.acks h.1 (IsIn-map of_file f (h.0).files h.2)), refl)
use-from_Holds f r (inr h) =
    let of_ack : Acked → List Use = λ a. map (λ g. record { id = r.id; holder = Subtask a.subtask; file = g }) a.files in
    let pin : ℕ → Use = λ g. record { id = r.id; holder = Pin; file = g } in
    (pin f, IsIn-append_right (pin f) (flat_map of_ack r.acks) (map pin r.pins) (IsIn-map pin f r.pins h), refl)

-- a present file is held
pub IsHeld-from_present : (f : ℕ) (records : List Record) → is_present (uses records) f ≡ true → IsHeld f records
IsHeld-from_present f records h = grind (arith, common_steps, ltb-true, IsIn-from_counted, IsIn-from_flat_map, eqb-true, Holds-from_use)

-- a held file is present
pub present-from_IsHeld : (f : ℕ) (records : List Record) → IsHeld f records → is_present (uses records) f ≡ true
present-from_IsHeld f records h =
    let q = use-from_Holds f h.0 h.2 in
    grind (arith, common_steps, counted-from_IsIn (λ (u : Use). eqb u.file f) q.0 (uses records) (IsIn-flat_map uses_of h.0 q.0 records h.1 q.1), eq-eqb)

-- a file that is not present is held by none
pub not_held : (f : ℕ) (records : List Record) → is_present (uses records) f ≡ false → IsHeld f records → ⊥
not_held f records e h = both_ways (is_present (uses records) f) e (present-from_IsHeld f records h)

-- a file that none holds is not present
pub absent-from_not_held : (f : ℕ) (records : List Record) → (IsHeld f records → ⊥) → is_present (uses records) f ≡ false
absent-from_not_held f records h =
    ⊎_elim (λ (e : is_present (uses records) f ≡ true). absurd (h (IsHeld-from_present f records e))) (λ (e : is_present (uses records) f ≡ false). e) (cases_Bool (is_present (uses records) f))

-- what is held after a change that adds no file was held before
pub IsHeld_before : (f : ℕ) (before after : List Record) → ((r : Record) → IsIn r after → Holds f r → IsHeld f before) → is_present (uses before) f ≡ false → is_present (uses after) f ≡ false
IsHeld_before f before after kept e = absent-from_not_held f after (λ h. not_held f before e (kept h.0 h.1 h.2))

-- the files of one acknowledgement more
pub Holds-put_ack : (f : ℕ) (a : Acked) (r : Record) → Holds f (record r { acks = put_ack a r.acks }) → IsIn f a.files ⊎ Holds f r
Holds-put_ack f a r h3 = grind (arith, common_steps, IsIn-put_cases)

-- it holds the new files
pub Holds-put_ack_new : (f : ℕ) (a : Acked) (r : Record) → IsIn f a.files → Holds f (record r { acks = put_ack a r.acks })
Holds-put_ack_new f a r h = inl (a, IsIn-put_itself acknowledges_before a r.acks, h)

-- and what it held before
pub Holds-put_ack_old : (f : ℕ) (a : Acked) (r : Record) → Holds f r → Holds f (record r { acks = put_ack a r.acks })
Holds-put_ack_old f a r h3 = grind (arith, common_steps, IsIn-put)
