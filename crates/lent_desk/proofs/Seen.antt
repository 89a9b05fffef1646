-- A law for every call that only reads a desk:
--     pub fn f(d: &Desk) -> X { let v = *d; g(v) }
-- where g(v: Desk) -> X ensures r ≡ F v. Then f answers `F h`, h being what stands behind d, and whatever P says of it may be ensured. X is any type of one
-- machine value: an integer, a bool, a struct.
--     ValueSeen        the contract that g meets
--     seen, sees   f's signature and clauses.        look-on     f's MIR.        seen-meets   f's MIR meets f's contract, over tables in which g meets its own
use mathlib.Core.Path.{◌≡◌, refl, subst}
use Prim.Native.Nat.{ℕ}
use mathlib.Core.List.{[], ◌∷◌, List}
use seplogic.Ra.Ura.{Ura}
use mir.Syntax.{Ty, Callee as Name, Fn, named, imm, ty_ref, local, value_local, place, deref, copy, rv_opd, assign, call, seq, return}
use mir.Val.{Val, vptr}
use base.Logic.{SProp, ent, sep, emp, via, fst∗, id⊢}
use base.Fml.{Lft, Share, ftrue, flft}
use prog.Wp.{Calls, Loops, WpFn, Tables}
use types.Logic.{Logic, sem}
use contract.Monad.{fact}
use types.Kit.{‵, raw, some, later, ⋆, ◌⊛◌, ◌$◌, ◌∵◌, !, qed, by, move, keep, drop, use1, split, join, pick, rewrite, fsplit, fjoin}
use types.Kit.{feq_i, suffices, frame, await, done}
use types.Run.{look, look_raw, init, forget, stop, hop, from, load, of_opd, and_then, no_more, assigns, land, returns, enter, alloc1, alloc0, params1}
use types.Run.{pass1, pass0, free1, free0}
use sound.WpLaws.{FmC, fm_of, WpFn-mono}
use denote.RattleType.{RattleType, owns}
use denote.Laws.{Is, Lawful, Typed, shows}
use denote.Memory.{hidden_shr, pointee}
use denote.Ref.{Bor, ShrRef, shr_vals, shr_Tells}
use denote.Signature.{plain, shr_ref_to}
use denote.Steps.{looks, shuts, owned, peeks, heard, nothing}
use denote.Struct.Steps.{spelt}
use denote.Struct.Laws as LL
use denote.Triple.Statement.{Contract, Triple}
use denote.Triple.Call.{calls_at}
use denote.Triple.Clauses.{Ended, Clauses, closing, ensured, lasts}
use denote.Triple.Entry.{on_entry}
use denote.Triple.Spec.{Meets, triple_of}
use denote.Triple.Walked.{Stays, stay_none_ref, walk_of, Goes-none_ref, Walks, ends_at, walked, walk_Meets}
use denote.Exit.{yes}
use Rattle.desk_record.specs.declared.Desk.{Desk}
use Rattle.desk_record.specs.contracts.Desk as T
use Rattle.desk_record.proofs.Desk.TheLaws as T'
use Rattle.lent_desk.proofs.Core.{R, mach, says_both}

module _ (X : RattleType) (τ : Ty) (one : X.mir ≡ τ ∷ []) (g : Name) (F : Desk → X.Denot) (P : Desk → X.Denot → Type 0) (holds : (d : Desk)
    → P d (F d)) where
  -- g, by value
  abbrev taken : Ended
  taken = record { signature = record { lifetimes = 0; outlives = []; params = plain (λ _. R) ∷ []; result = plain (λ _. X) }; kept = (yes, tt) }

  abbrev takes : {M : Type 1} (𝓤 : Ura M) → Clauses 𝓤 taken
  takes 𝓤 κs a = record { ghost = Unit {0}; requires = λ _. emp 𝓤; ensures = λ _ r _. fact 𝓤 (r ≡ F a.0) }

  -- what g meets
  abbrev pub ValueSeen : {M : Type 1} {𝓤 : Ura M} (𝓛 : Logic 𝓤) → Contract 𝓤
  ValueSeen {𝓤 = 𝓤} 𝓛 = triple_of 𝓛 taken.signature (closing 𝓛 taken (takes 𝓤))

  -- f, by reference
  abbrev pub seen : Ended
  seen = record {
    signature = record { lifetimes = 1; outlives = []; params = shr_ref_to (0 ∷ []) tt (plain (λ _. R)) ∷ []; result = plain (λ _. X) };
    kept = (yes, tt);
  }

  abbrev pub sees : {M : Type 1} (𝓤 : Ura M) → Clauses 𝓤 seen
  sees 𝓤 κs a = record { ghost = Unit {0}; requires = λ _. emp 𝓤; ensures = λ _ r _. sep 𝓤 (fact 𝓤 (r ≡ F a.0.now)) (fact 𝓤 (P a.0.now r)) }

  -- f's MIR
  abbrev pub look-on : Fn
  look-on = record {
    lifetimes = 1;
    outlives = [];
    ty_params = [];
    givens = 0;
    params = 1;
    locals = local τ value_local ∷ local (ty_ref (named 0) imm (pointee R.written)) value_local ∷ local T'.mir value_local ∷ [];
    body = seq (assign (place 2 []) (rv_opd (copy (place 1 (deref T'.mir ∷ []))))) (seq (call g (copy (place 2 []) ∷ []) (place 0 [])) return);
  }

  abbrev stayed : Stays seen.signature.params seen.kept
  stayed = (stay_none_ref (0 ∷ []) tt (plain (λ _. R)) yes, tt)

  module _ {M : Type 1} {𝓤 : Ura M} (𝓛 : Logic 𝓤) (law : Lawful 𝓛 X) (κ : Lft) (q : Share) (b o : ℕ) (h : Desk) where
    open 𝓛 use {H}

    abbrev x : Bor Desk × Unit {0}
    x = (record { ref_ptr = (b, o); now = h }, tt)

    abbrev at : List Val × Unit {0}
    at = (vptr b o ∷ [], tt)

    abbrev Post : Val → SProp 𝓤
    Post = (walk_of 𝓛 seen stayed (sees 𝓤)).post (((κ, tt), (q, tt), tt, x, at), tt)

    exits : (v : Val) → ent 𝓤 (⋆ 𝓛 (‵ (flft κ q) ∷ ‵ (hidden_shr R κ h b o) ∷ ‵ (X.own_val (F h) (v ∷ [])) ∷ [])) (Post v)
    exits v =
        qed 𝓛 (‵ (flft κ q) ∷ ‵ (hidden_shr R κ h b o) ∷ ‵ (X.own_val (F h) (v ∷ [])) ∷ []) ∵
        suffices ! _ (ends_at 𝓛 seen stayed (sees 𝓤) (((κ, tt), (q, tt), tt, x, at), tt) v (F h) (tt, tt) (tt, tt)) $ says_both ! refl (holds h) $
        nothing ! $ move ! (1 ∷ 0 ∷ []) $ join ! $ frame ! $ feq_i ! (List Val) (vptr b o ∷ []) (vptr b o ∷ []) refl $ fjoin ! $ nothing ! $
        move ! (1 ∷ 0 ∷ []) $ fjoin ! $ frame ! $ done !

    abbrev to : (ValueSeen 𝓛).Ghost
    to = ((tt, tt, tt, (h, tt), (mach h ∷ [], tt)), tt)

    asks : ent 𝓤 (sem 𝓛 (R.own_val h (mach h ∷ []))) ((ValueSeen 𝓛).pre to)
    asks = qed 𝓛 (‵ (R.own_val h (mach h ∷ [])) ∷ []) ∵ nothing ! $ move ! (1 ∷ 0 ∷ []) $ fjoin ! $ nothing ! $ join ! $ frame ! $ done !

    module _ (C : Calls 𝓤 H) (Λ : Loops 𝓤 H) (fm : FmC 𝓤 H 𝓛.laws C) (known : Triple 𝓤 (C g) (ValueSeen 𝓛)) where
      walk : ent 𝓤 (on_entry 𝓛 seen.signature (κ, tt) (q, tt) x at) (WpFn 𝓤 H C Λ look-on (vptr b o ∷ []) Post)
      walk =
          qed 𝓛 ((‵ (flft κ q) ⊛ ‵ ftrue) ∷ ‵ (owns (ShrRef (named 0) κ R ∷ []) x at) ∷ []) ∵ enter ! C Λ look-on (vptr b o ∷ []) _ $
          alloc1 ! (λ l₀. alloc1 ! (λ l₁. alloc1 ! (λ l₂. alloc0 ! $ params1 ! $ pass1 ! (init ! 2 refl (tt, tt)) $ pass0 ! $
          move ! (7 ∷ []) $ fsplit ! $ fsplit ! $ drop ! $ move ! (8 ∷ []) $ split ! $ move ! (2 ∷ 0 ∷ []) $
          looks ! tt R ((LL.copied T.the_type T'.the_copy 𝓛).opens) h b o (λ q' vs.
          spelt ! R (Is R) (shows 𝓛 R) (LL.vals T.the_type T'.the_laws) (LL.tells T.the_type T'.the_laws) q' h vs b o $ move ! (1 ∷ []) $
          peeks ! R (Is R) (shows 𝓛 R) h (mach h ∷ []) (λ was.
          -- [what the desk owns; a share of its cell; what shuts it; what the reference holds; true; true; room for _2; …; _1; …; room for _0; …]
          assigns ! (of_opd ! (load ! (from ! (hop ! (look ! 8 refl) (stop !))) (look_raw ! 1 refl))) (from ! (stop !)) (init ! 6 refl
          ((LL.lawful T.the_type T'.the_laws 𝓛).typed h _ was).0) $
          use1 𝓛 (raw ((ValueSeen 𝓛).pre to)) asks $ calls_at ! fm (ValueSeen 𝓛) known to (and_then ! (load ! (from ! (stop !))
          (look ! 6 refl)) (no_more !)) (λ v.
          use1 𝓛 (later (some (λ (z : X.Denot). (‵ ftrue ⊛ ‵ (X.own_val z (v ∷ []))) ⊛ raw (ensured 𝓛 taken (takes 𝓤) tt (h, tt) tt z))))
          (id⊢ 𝓤 _) $ await ! tt $ pick ! (λ z. split ! $ move ! (1 ∷ []) $
          use1 𝓛 (some (λ (ws : Unit {0} × Unit {0}). ‵ (lasts taken tt (h, tt) ws) ⊛ raw (fact 𝓤 (z ≡ F h)))) (id⊢ 𝓤 _) $ pick ! (λ ws. split ! $
          move ! (1 ∷ []) $ heard ! (z ≡ F h) (λ e. drop ! $ split ! $ drop ! $
          rewrite ! 0 (λ (y : X.Denot). ‵ (X.own_val y (v ∷ []))) e refl $ peeks ! X (Is X) (shows 𝓛 X) (F h) (v ∷ []) (λ is.
          land ! (from ! (stop !)) (init ! 10 refl (subst (λ (τs : List Ty). Typed τs (v ∷ [])) one (law.typed (F h) (v ∷ []) is)).0) $
          owned ! R (Is R) (LL.makes T.the_type T'.the_plain 𝓛) h _ was $ move ! (2 ∷ 0 ∷ 3 ∷ []) $ shuts ! tt R q' h (mach h ∷ []) b o $
          -- [the token; the result's; what the reference holds; true; true; _2; …; _1; …; _0; …]
          returns ! (look ! 9 refl) $ forget ! 5 refl $ forget ! 7 refl $ forget ! 9 refl $ move ! (9 ∷ 10 ∷ []) $ free1 ! $ move ! (7 ∷ 8 ∷ []) $
          free1 ! $ move ! (5 ∷ 6 ∷ []) $ free1 ! $ free0 ! $
          keep ! (0 ∷ 2 ∷ 1 ∷ []) $ by ! (exits v)))))))))))

  module _ {M : Type 1} {𝓤 : Ura M} (𝓛 : Logic 𝓤) (law : Lawful 𝓛 X) (𝓣 : Tables 𝓤 𝓛.H) (known : Triple 𝓤 (𝓣.C g)
      (ValueSeen 𝓛)) where
    open 𝓛 use {H}

    seen_walks : Walks 𝓛 seen stayed (WpFn 𝓤 H 𝓣.C 𝓣.Λ look-on) (sees 𝓤)
    seen_walks = walked 𝓛 seen stayed (sees 𝓤) (WpFn 𝓤 H 𝓣.C 𝓣.Λ look-on) (λ κs. (shr_vals, tt)) (λ κs. (shr_Tells (named 0) κs.0 R, tt))
        (λ κs qs bounds a _ _. via 𝓤 _ (fst∗ 𝓤 _ (emp 𝓤)) (walk 𝓛 law κs.0 qs.0 a.0.ref_ptr.0 a.0.ref_ptr.1 a.0.now
        𝓣.C 𝓣.Λ (fm_of 𝓤 H 𝓛.laws 𝓣) known))

    pub seen-meets : Meets 𝓛 seen.signature (WpFn 𝓤 H 𝓣.C 𝓣.Λ look-on) (closing 𝓛 seen (sees 𝓤))
    seen-meets = walk_Meets 𝓛 seen stayed (Goes-none_ref 𝓛 1 (0 ∷ []) tt (plain (λ _. R)) yes, tt) (sees 𝓤) (WpFn 𝓤 H 𝓣.C
        𝓣.Λ look-on) (WpFn-mono 𝓤 H 𝓛.laws 𝓣 look-on) seen_walks
