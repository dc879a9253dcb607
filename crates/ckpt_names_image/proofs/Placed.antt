-- A member that is put at its place brings no float and no greater depth than its own.
use Rattle.ckpt_names_image.proofs.Names.{◌≡◌, ℕ, ◌≤◌, false, List, refl, arith, Ordering, Less, Equal, Greater, nat_cmp, or_parts, slice_cmp, match_ordering, Data, Members, member}
use Rattle.ckpt_names_image.proofs.Names.{no_members, put, depth, members_depth, has_float, members_have_float}

float_at : (o : Ordering) (k l : List ℕ) (d e : Data) (ms rest : Members)
    → has_float d ≡ false → has_float e ≡ false → members_have_float ms ≡ false → members_have_float rest ≡ false
    → members_have_float (match_ordering o (member k d (member l e ms)) (member l d ms) (member l e rest)) ≡ false
float_at Less k l d e ms rest here its ours theirs = rw (here, its, ours) refl
float_at Equal k l d e ms rest here its ours theirs = rw (here, ours) refl
float_at Greater k l d e ms rest here its ours theirs = rw (its, theirs) refl

pub float_put : (k : List ℕ) (d : Data) (ms : Members) → has_float d ≡ false → members_have_float ms ≡ false → members_have_float (put k d ms) ≡ false
float_put k d no_members here all = rw here refl
float_put k d (member l e ms) here all =
    let parts = or_parts (has_float e) (members_have_float ms) all in
    float_at (slice_cmp nat_cmp k l) k l d e ms (put k d ms) here parts.0 parts.1 (float_put k d ms here parts.1)

depth_at : (o : Ordering) (k l : List ℕ) (d e : Data) (ms rest : Members) (n : ℕ)
    → depth d ≤ n → depth e ≤ n → members_depth ms ≤ n → members_depth rest ≤ n
    → members_depth (match_ordering o (member k d (member l e ms)) (member l d ms) (member l e rest)) ≤ n
depth_at Less k l d e ms rest n here its ours theirs = omega arith
depth_at Equal k l d e ms rest n here its ours theirs = omega arith
depth_at Greater k l d e ms rest n here its ours theirs = omega arith

pub depth_put : (k : List ℕ) (d : Data) (ms : Members) (n : ℕ) → depth d ≤ n → members_depth ms ≤ n → members_depth (put k d ms) ≤ n
depth_put k d no_members n here all = omega arith
depth_put k d (member l e ms) n here all =
    let its : depth e ≤ n = omega arith in
    let ours : members_depth ms ≤ n = omega arith in
    depth_at (slice_cmp nat_cmp k l) k l d e ms (put k d ms) n here its ours (depth_put k d ms n here ours)
