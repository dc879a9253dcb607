-- The machine value of a handle, and what it owns. Assumes `Logic`.
use Rattle.relkvanu.proofs.Imports.{◌≡◌, ℕ, List, [], ◌∷◌, ◌++◌, refl, sym, subst, Ura, Val, vstruct, vcons, vnil, of_list, SProp, ent, id⊢, guard, never, via, fst∗, snd∗, guard_i, Fml, Logic}
use Rattle.relkvanu.proofs.Imports.{sem, Item, Goal, Seq, Step, ‵, ◌$◌, fsplit, fjoin, fpick, fpack, feq_i, feq_l, use1, learn, fact_use, RattleType, Valss, RawPtr, lone, Ptr, block_ptr}
use Rattle.relkvanu.proofs.Imports.{null_ptr, ptr_val, in_a_block, Testable, nothing, within, shape, points_to, ghosts, dealloc_token-Testable, box_owns, State, Issued, Chronicle, IsHeld}
use Rattle.relkvanu.proofs.Imports.{heap, kept}
use mir.Raw.{raw as bare}
use types.Kit.{step, given, drop}
use Rattle.std.specs.declared.option.Option.{Option}
use Rattle.std.specs.declared.option.Option.TheVariants.{None, Some}
use Rattle.ckpt_logged.specs.contracts.logged.Logged as logged
use Rattle.relkvanu.specs.contracts.handle.Handle as handle

abbrev pub word : Val → Val
word v = vstruct (vcons v vnil)

abbrev pub R : RattleType
R = logged.the_row

abbrev pub boxed : Ptr → R.Denot → Fml
boxed p x = box_owns (ghosts.dealloc_token heap) R p x

module _ {M : Type 1} {𝓤 : Ura M} (𝓛 : Logic 𝓤) where
  -- the right to free a block says that its address can be compared with null
  tested : (p : Ptr) (x : R.Denot) → ent 𝓤 (sem 𝓛 (boxed p x)) (guard 𝓤 (Testable p) (sem 𝓛 (boxed p x)))
  tested p x =
      let B : SProp 𝓤 = sem 𝓛 (boxed p x) in let token : Fml = ghosts.dealloc_token heap (bare (lone R.mir)) p in
      fact_use 𝓤 (Testable p) (via 𝓤 _ (snd∗ 𝓤 (sem 𝓛 (points_to R p x)) (sem 𝓛 token)) (dealloc_token-Testable 𝓛 heap (bare (lone R.mir)) p))
      (guard_i 𝓤 (Testable p) B)

module _ {M : Type 1} {𝓤 : Ura M} {𝓛 : Logic 𝓤} {K : Type 0} {Γ : List (Item 𝓤)} {G : Goal 𝓤 𝓛.H} where
  pub handle_out : K → (d : handle.the_row.Denot) (vs : List Val)
      → (vs ≡ word (ptr_val d.at) ∷ [] → Seq K 𝓛 (‵ (kept d.at d.value d.names d.past) ∷ Γ) G)
      → Seq K 𝓛 (‵ (handle.the_row.own_val d vs) ∷ Γ) G
  handle_out t d vs go =
      fsplit t $ fpick t (λ fields. fsplit t $ feq_l t (λ whole. fsplit t $ feq_l t (λ pointer. drop t $
      go (subst (λ (ps : List Val). vs ≡ vstruct (of_list (ps ++ [])) ∷ []) pointer whole))))

  pub handle_in : K → (p : Ptr) (v : Option State) (n : Option Issued) (c : Option Chronicle)
      → Step K 𝓛 (‵ (handle.the_row.own_val (record { at = p; value = v; names = n; past = c }) (word (ptr_val p) ∷ [])) ∷ Γ) G (‵ (kept p v n c) ∷ Γ) G
  handle_in t p v n c = step (λ s. let w : List Val = word (ptr_val p) ∷ [] in
      nothing t $ feq_i t (List Val) (ptr_val p ∷ []) (ptr_val p ∷ []) refl $ fjoin t $ feq_i t (List Val) w w refl $ fjoin t $
      fpack t (Valss (RawPtr ∷ [])) (within (shape handle.the_type) (p, tt) w) (ptr_val p ∷ [], tt) $ fjoin t $ s)

  -- a handle is closed, or has its box
  pub either : K → (p : Ptr) (v : Option State) (n : Option Issued) (c : Option Chronicle)
      → (p ≡ null_ptr → IsHeld None v n c → Seq K 𝓛 Γ G)
      → ((b o : ℕ) (x : R.Denot) → p ≡ block_ptr b o → IsHeld (Some x) v n c → Testable (block_ptr b o) → Seq K 𝓛 (‵ (boxed (block_ptr b o) x) ∷ Γ) G)
      → Seq K 𝓛 (‵ (kept p v n c) ∷ Γ) G
  either t p v n None none one = fpick t (λ is. drop t $ none is.0 is.1)
  either t p v n (Some x) none one = fpick t (λ held.
      in_a_block t p (λ q. boxed q x) (fst∗ 𝓤 (never 𝓤) (sem 𝓛 (ghosts.dealloc_token heap (bare (lone R.mir)) null_ptr))) (λ b o is.
      use1 𝓛 (given (Testable (block_ptr b o)) (‵ (boxed (block_ptr b o) x))) (tested 𝓛 (block_ptr b o) x) $
      learn t (λ u. one b o x is held u)))
