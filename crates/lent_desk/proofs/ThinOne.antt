-- `ThinTwo.antt`'s law for one further parameter:
--     pub fn f(d: &mut Desk, a: uN) -> u8 { let v = *d; let o = g(v, a); *d = o.desk; o.answer }
-- where g(v: Desk, a: uN) -> Changed ensures r ≡ F v a.
use mathlib.Core.Path.{◌≡◌, refl}
use Prim.Native.Nat.{ℕ, ◌<◌, ◌^◌}
use mathlib.Core.List.{[], ◌∷◌, List}
use seplogic.Ra.Ura.{Ura}
use mir.Syntax.{Width, Callee as Name, Fn, named, mut, w8, ty_int, ty_ref, local, value_local, place, deref, field, copy, rv_opd, assign, call, seq, return}
use mir.Val.{Val, vint, vptr, bits}
use base.Logic.{SProp, ent, sep, emp, via, fst∗, id⊢}
use base.Fml.{GName, Lft, Share, Fml, ftrue, flft, fobs, fbor}
use prog.Wp.{Calls, Loops, WpFn, Tables}
use types.Logic.{Logic, sem}
use contract.Monad.{fact}
use types.Kit.{‵, raw, some, later, ◌⊛◌, ◌$◌, ◌∵◌, !, qed, by, move, keep, drop, use0, use1, split, join, pick, rewrite, fsplit, fsplit3, fjoin}
use types.Kit.{fjoin3, feq_i, suffices, frame, await, updating, now as at_once, done}
use types.Run.{look, init, forget, stop, from, load, and_then, no_more, enter, alloc1, alloc0, params1, pass1, pass0, free1, free0}
use types.SemTy.{Body}
use sound.WpLaws.{FmC, fm_of, WpFn-mono}
use denote.RattleType.{owns}
use denote.Laws.{Is}
use denote.Memory.{mem, pointee}
use denote.Plain.{UInt, uint_vals, uint_Tells, uint_Makes, uint_Lawful}
use denote.Builtin.{u8}
use denote.Ref.{MutBor, MutRef, mut_vals, mut_Tells}
use denote.Signature.{plain, mut_ref_to}
use denote.Steps.{owned, heard, nothing}
use denote.Triple.Statement.{Contract, Triple}
use denote.Triple.Clauses.{Ended, Clauses, closing, ensured, lasts}
use denote.Triple.Entry.{on_entry}
use denote.Triple.Spec.{Meets, triple_of}
use denote.Triple.Walked.{Stays, stay_ref, stay_none, walk_of, AllGo, Goes-none, Goes-ref, Walks, ends_at, walked, walk_Meets}
use denote.Exit.{yes}
use Rattle.desk_record.specs.declared.Desk.{Desk}
use Rattle.desk_record.specs.declared.Changed.{Changed}
use Rattle.desk_record.proofs.Desk.TheLaws as T'
use Rattle.desk_record.specs.contracts.Changed as O
use Rattle.desk_record.proofs.Changed.TheLaws as O'
use Rattle.lent_desk.proofs.Core.{R, mach, says_both, thin_body}
use Rattle.lent_desk.proofs.Outcomes.{outcome_tells, answer-fits, ν}

module _ (w₁ : Width) (g : Name) (F : Desk → ℕ → Changed) (P : Desk → ℕ → Changed → Type 0) (holds : (d : Desk) (a : ℕ) → P d a (F d a)) where
  -- g, by value
  abbrev taken : Ended
  taken = record {
    signature = record {
      lifetimes = 0;
      outlives = [];
      params = plain (λ _. R) ∷ plain (λ _. UInt w₁) ∷ [];
      result = plain (λ _. O.the_row);
    };
    kept = (yes, (yes, tt));
  }

  abbrev takes : {M : Type 1} (𝓤 : Ura M) → Clauses 𝓤 taken
  takes 𝓤 κs a = record { ghost = Unit {0}; requires = λ _. emp 𝓤; ensures = λ _ r _. fact 𝓤 (r ≡ F a.0 a.1.0) }

  -- what g meets
  abbrev pub ValueOne : {M : Type 1} {𝓤 : Ura M} (𝓛 : Logic 𝓤) → Contract 𝓤
  ValueOne {𝓤 = 𝓤} 𝓛 = triple_of 𝓛 taken.signature (closing 𝓛 taken (takes 𝓤))

  -- f, by reference
  abbrev pub lent_one : Ended
  lent_one = record {
    signature = record {
      lifetimes = 1;
      outlives = [];
      params = mut_ref_to (0 ∷ []) tt (plain (λ _. R)) ∷ plain (λ _. UInt w₁) ∷ [];
      result = plain (λ _. u8);
    };
    kept = (yes, (yes, tt));
  }

  abbrev pub lends_one : {M : Type 1} (𝓤 : Ura M) → Clauses 𝓤 lent_one
  lends_one 𝓤 κs a = record {
    ghost = Unit {0};
    requires = λ _. emp 𝓤;
    ensures = λ _ r e. sep 𝓤 (fact 𝓤 (record {
      desk = e.0.now;
      answer = r;
    } ≡ F a.0.now a.1.0)) (fact 𝓤 (P a.0.now a.1.0 (record { desk = e.0.now; answer = r })));
  }

  -- f's MIR
  abbrev pub thin-one : Fn
  thin-one = record {
    lifetimes = 1;
    outlives = [];
    ty_params = [];
    givens = 0;
    params = 2;
    locals = local (ty_int w8) value_local ∷ local (ty_ref (named 0) mut (pointee R.written)) value_local ∷ local
        (ty_int w₁) value_local ∷ local T'.mir value_local ∷ local O'.mir value_local ∷ local T'.mir value_local ∷ [];
    body = seq (assign (place 3 []) (rv_opd (copy (place 1 (deref T'.mir ∷ [])))))
        (seq (call g (copy (place 3 []) ∷ copy (place 2 []) ∷ []) (place 4 []))
        (seq (assign (place 5 []) (rv_opd (copy (place 4 (field 0 ∷ [])))))
        (seq (assign (place 1 (deref T'.mir ∷ [])) (rv_opd (copy (place 5 []))))
        (seq (assign (place 0 []) (rv_opd (copy (place 4 (field 1 ∷ []))))) return))));
  }

  abbrev stayed : Stays lent_one.signature.params lent_one.kept
  stayed = (stay_ref (0 ∷ []) tt (plain (λ _. R)), (stay_none (λ _. UInt w₁) yes, tt))

  module _ {M : Type 1} {𝓤 : Ura M} (𝓛 : Logic 𝓤) (κ : Lft) (q : Share) (b o : ℕ) (γ : GName) (h : Desk) (n : ℕ)
      (n-fits : n < 2 ^ bits w₁) where
    open 𝓛 use {H, A}

    abbrev x : MutBor Desk × (ℕ × Unit {0})
    x = (record { ref_ptr = (b, o); ghost_name = γ; now = h }, (n, tt))

    abbrev at : List Val × (List Val × Unit {0})
    at = (vptr b o ∷ [], (vint w₁ n ∷ [], tt))

    abbrev r : Changed
    r = F h n

    abbrev Post : Val → SProp 𝓤
    Post = (walk_of 𝓛 lent_one stayed (lends_one 𝓤)).post (((κ, tt), (q, tt), tt, x, at), tt)

    -- what the other parameters own
    abbrev Rest : Fml
    Rest = owns (UInt w₁ ∷ []) (n, tt) (vint w₁ n ∷ [], tt)

    rest : ent 𝓤 (emp 𝓤) (sem 𝓛 Rest)
    rest = qed 𝓛 [] ∵ nothing ! $ owned ! (UInt w₁) (Is (UInt w₁)) (uint_Makes 𝓛 w₁) n _ (refl, n-fits) $ fjoin ! $ done !

    exits : r.answer < 2 ^ 8 → ent 𝓤 (sep 𝓤 (A.obs γ (R.coded.code r.desk)) (sep 𝓤 (A.bor κ (Body (mem R) b o γ)) (A.lft κ q))) (Post
        (vint w8 r.answer))
    exits fits =
        qed 𝓛 (‵ (fobs γ (R.coded.code r.desk)) ∷ ‵ (fbor κ (Body (mem R) b o γ)) ∷ ‵ (flft κ q) ∷ []) ∵
        suffices ! _ (ends_at 𝓛 lent_one stayed (lends_one 𝓤) (((κ, tt), (q, tt), tt, x, at), tt) (vint w8 r.answer) r.answer (
          r.desk,
          (tt, tt),
        ) (tt, (tt, tt))) $ says_both ! refl (holds h n) $ nothing ! $ move ! (3 ∷ 0 ∷ []) $ join ! $
        frame ! $ feq_i ! (List Val) (vptr b o ∷ []) (vptr b o ∷ []) refl $ fjoin3 ! $ use0 𝓛 (‵ Rest) rest $ move ! (1 ∷ 0 ∷ []) $ fjoin ! $
        owned ! u8 (Is u8) (uint_Makes 𝓛 w8) r.answer _ (refl, fits) $ move ! (1 ∷ 0 ∷ []) $ done !

    abbrev to : (ValueOne 𝓛).Ghost
    to = ((tt, tt, tt, (h, (n, tt)), (mach h ∷ [], (vint w₁ n ∷ [], tt))), tt)

    -- what g asks, and what it leaves
    asks : ent 𝓤 (sep 𝓤 (sem 𝓛 (R.own_val h (mach h ∷ []))) (sem 𝓛 Rest)) ((ValueOne 𝓛).pre to)
    asks = qed 𝓛 (‵ (R.own_val h (mach h ∷ [])) ∷ ‵ Rest ∷ []) ∵ fjoin ! $ nothing ! $ join ! $ frame ! $ done !

    leaves : (v : Val) → ent 𝓤 ((ValueOne 𝓛).post to v) (H.⇛ (sep 𝓤 (sem 𝓛 ((O.the_row).own_val r (v ∷ []))) (sem 𝓛 ftrue)))
    leaves v =
        qed 𝓛 (raw ((ValueOne 𝓛).post to v) ∷ []) ∵ use1 𝓛 (later (some (λ (z : Changed). (‵ ftrue ⊛ ‵ ((O.the_row).own_val z (v ∷ []))) ⊛ raw
        (ensured 𝓛 taken (takes 𝓤) tt (h, (n, tt)) tt z)))) (id⊢ 𝓤 _) $ updating ! $ await ! tt $ pick ! (λ z. split ! $ move ! (1 ∷ []) $
        use1 𝓛 (some (λ (ws : Unit {0} × (Unit {0} × Unit {0})). ‵ (lasts taken tt (h, (n, tt)) ws) ⊛ raw (fact 𝓤 (z ≡ r)))) (id⊢ 𝓤 _) $
        pick ! (λ ws. split ! $ move ! (1 ∷ []) $ heard ! (z ≡ r) (λ e. drop ! $ split ! $ drop ! $
        rewrite ! 0 (λ (y : Changed). ‵ ((O.the_row).own_val y (v ∷ []))) e refl $ at_once ! $ frame ! $ nothing ! $ done !)))

    module _ (C : Calls 𝓤 H) (Λ : Loops 𝓤 H) (fm : FmC 𝓤 H 𝓛.laws C) (known : Triple 𝓤 (C g) (ValueOne 𝓛)) where
      walk : ent 𝓤 (on_entry 𝓛 lent_one.signature (κ, tt) (q, tt) x at) (WpFn 𝓤 H C Λ thin-one (vptr b o ∷ vint w₁ n ∷ []) Post)
      walk =
          qed 𝓛 ((‵ (flft κ q) ⊛ ‵ ftrue) ∷ ‵ (owns (MutRef (named 0) κ R ∷ UInt w₁ ∷ []) x at) ∷ []) ∵ enter ! C Λ thin-one (vptr b o ∷ vint w₁ n ∷ []) _ $
          alloc1 ! (λ l₀. alloc1 ! (λ l₁. alloc1 ! (λ l₂. alloc1 ! (λ l₃. alloc1 ! (λ l₄. alloc1 ! (λ l₅. alloc0 ! $ params1 ! $
          pass1 ! (init ! 8 refl (tt, tt)) $ pass1 ! (init ! 6 refl ((uint_Lawful 𝓛 w₁).typed n _ (refl, n-fits)).0) $ pass0 ! $
          move ! (13 ∷ []) $ fsplit ! $ fsplit3 ! $ drop ! $ move ! (15 ∷ []) $ split ! $
          -- [the token; true; obs; the borrow; the other's; _5; …; _4; …; _3; …; _2; …; _1; …; room for _0; …]
          move ! (2 ∷ 3 ∷ 0 ∷ 4 ∷ 13 ∷ 9 ∷ 7 ∷ 5 ∷ 15 ∷ []) $
          thin_body ν (ty_int w8) O.the_row (λ (z : Changed). z.desk) (λ (z : Changed). vint w8 z.answer) ! l₀ l₁ l₃ l₄ l₅ _ fm
          (ValueOne 𝓛) to refl refl refl h r (‵ Rest) (‵ ftrue)
          (record { known = known; told = outcome_tells 𝓛 r; asks = asks; leaves = leaves }) b o
          (λ k₀ k₁ k₂ k₃ k₄ k₅. and_then ! (load ! (from ! (stop !)) (look ! 6 refl)) (and_then ! (load ! (from ! (stop !)) (look ! 14 refl))
          (no_more !))) (λ v is.
          -- [obs; the borrow; the token; true; _1; _3; _4; _5; _0; true; _5's; _4's; _3's; _2; …; _1's; _0's]
          forget ! 4 refl $ forget ! 5 refl $ forget ! 6 refl $ forget ! 7 refl $ forget ! 8 refl $ forget ! 13 refl $
          move ! (8 ∷ 16 ∷ []) $ free1 ! $ move ! (4 ∷ 14 ∷ []) $ free1 ! $ move ! (11 ∷ 12 ∷ []) $ free1 ! $ move ! (4 ∷ 10 ∷ []) $ free1 ! $
          move ! (4 ∷ 8 ∷ []) $ free1 ! $ move ! (4 ∷ 6 ∷ []) $ free1 ! $ free0 ! $
          keep ! (0 ∷ 1 ∷ 2 ∷ []) $ by ! (exits (answer-fits r v is)))))))))

  module _ {M : Type 1} {𝓤 : Ura M} (𝓛 : Logic 𝓤) where
    open 𝓛 use {H}

    thin_walks : (C : Calls 𝓤 H) (Λ : Loops 𝓤 H) → FmC 𝓤 H 𝓛.laws C → Triple 𝓤 (C g) (ValueOne 𝓛)
        → Walks 𝓛 lent_one stayed (WpFn 𝓤 H C Λ thin-one) (lends_one 𝓤)
    thin_walks C Λ fm known = walked 𝓛 lent_one stayed (lends_one 𝓤) (WpFn 𝓤 H C Λ thin-one) (λ κs. (mut_vals, (uint_vals w₁, tt))) (λ κs.
        (mut_Tells (named 0) κs.0 R, (uint_Tells w₁, tt)))
        (λ κs qs bounds a _ are. via 𝓤 _ (fst∗ 𝓤 _ (emp 𝓤)) (walk 𝓛 κs.0 qs.0 a.0.ref_ptr.0 a.0.ref_ptr.1 a.0.ghost_name a.0.now
        a.1.0 are.1.0.1 C Λ fm known))

    all_go : AllGo 𝓛 1 lent_one.signature.params lent_one.kept stayed
    all_go = (Goes-ref 𝓛 1 0 tt (plain (λ _. R)), (Goes-none 𝓛 1 (λ _. UInt w₁) yes (λ κs x f. refl), tt))

  pub thin-one-meets : {M : Type 1} {𝓤 : Ura M} (𝓛 : Logic 𝓤) (𝓣 : Tables 𝓤 𝓛.H)
      → Triple 𝓤 (𝓣.C g) (ValueOne 𝓛) → Meets 𝓛 lent_one.signature (WpFn 𝓤 𝓛.H 𝓣.C 𝓣.Λ thin-one) (closing 𝓛 lent_one (lends_one 𝓤))
  thin-one-meets {𝓤 = 𝓤} 𝓛 𝓣 known = walk_Meets 𝓛 lent_one stayed (all_go 𝓛) (lends_one 𝓤) (WpFn 𝓤 𝓛.H 𝓣.C 𝓣.Λ thin-one)
      (WpFn-mono 𝓤 𝓛.H 𝓛.laws 𝓣 thin-one) (thin_walks 𝓛 𝓣.C 𝓣.Λ (fm_of 𝓤 𝓛.H 𝓛.laws 𝓣) known)
