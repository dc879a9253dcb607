-- The files of a record, sorted and each once.
use Rattle.ckpt_pending.proofs.Names.{◌≡◌, ℕ, List, [], ◌∷◌, map, refl, ap, flat_map, append-nil, map-append, Acked, Record, Use, Holder, Subtask, uses}

-- the files of uses are the files
files_back : (id : ℕ) (a : Holder) (files : List ℕ) → map (λ (u : Use). u.file) (map (λ f. record { id = id; holder = a; file = f }) files) ≡ files
files_back id a [] = refl
files_back id a (f ∷ files) = ap (λ zs. f ∷ zs) (files_back id a files)

files_of_acks : (id : ℕ) (acks : List Acked)
    → map (λ (u : Use). u.file) (flat_map (λ a. map (λ f. record { id = id; holder = Subtask a.subtask; file = f }) a.files) acks) ≡ flat_map (λ a. a.files) acks
files_of_acks id [] = refl
files_of_acks id (a ∷ acks) = rw (map-append, files_back id (Subtask a.subtask) a.files, files_of_acks id acks)

-- what a record without pins uses
pub files_of_uses : (r : Record) → r.pins ≡ [] → map (λ u. u.file) (uses (r ∷ [])) ≡ flat_map (λ a. a.files) r.acks
files_of_uses r none = rw (none, append-nil, append-nil) (files_of_acks r.id r.acks)
