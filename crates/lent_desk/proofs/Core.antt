-- The body that every call has which alters a desk, walked once:
--     i = *d;  j = g(i, ..);  k = j.desk;  *d = k;  result = j.answer;  return
-- whatever the other parameters are, wherever the locals i, j and k stand, and for every struct that g may give whose first field is a desk and whose second is
-- the answer: Row is its type, ν its name, τ the type of its answer, and `whose` and `ans` are its desk and the machine value of its answer.
-- d is local 1, a `&mut Desk` that is owned at h. A proof goes by `thin_body`, or by its two parts where a statement stands between them: the desk is then
-- owned at `whose r`, the result is `ans r`, and the locals are to be freed.
use mathlib.Core.Path.{◌≡◌, refl, sym, subst}
use Prim.Native.Nat.{ℕ}
use mathlib.Core.List.{[], ◌∷◌, List}
use seplogic.Ra.Ura.{Ura}
use base.Fraction.{full_share}
use lib.Dec.{T as Tᵇ}
use mir.Syntax.{Sym, Body as Stmts, Ty, ty_struct, tcons, tnil, Callee as Name, Step as PStep, Opd as Operand, place, deref, field, copy, rv_opd, assign, call, seq, return}
use mir.Val.{Val, vptr, vstruct, vcons, vnil, has_ty, WT}
use base.Logic.{SProp, ent, sep, via, assoc∗}
use base.Fml.{GName, Lft, Share, fat, froom, flft, fobs, fbor, fobor, fauth}
use prog.Wp.{Env, Spot, Calls, Loops, spot_of}
use types.Logic.{Logic, sem}
use contract.Monad.{fact}
use types.Kit.{Item, Seq, Step, step, runs, frees, prop, at_ret, mean, ‵, raw, later, ◌⊛◌, ◌$◌, move, drop, use1, use2, split, rewrite, await}
use types.Run.{Walks, Finds, Opds, look, look_raw, store_raw, init, stop, hop, fld, from, load, of_opd, assigns, land, returns}
use types.Part.{whole, sub, look_in}
use types.SemTy.{Body}
use sound.WpLaws.{FmC}
use denote.RattleType.{RattleType}
use denote.Laws.{Is, shows}
use denote.Memory.{mem, cell_at}
use denote.Steps.{opens, closes, owned, peeks}
use denote.Struct.Steps.{spelt}
use denote.Struct.Laws as LL
use denote.Triple.Statement.{Contract, Triple}
use denote.Triple.Call.{calls_at}
use denote.Triple.Walked.{says}
use Rattle.desk_record.specs.declared.Desk.{Desk}
use Rattle.desk_record.specs.contracts.Desk as T
use Rattle.desk_record.proofs.Desk.TheLaws as T'

abbrev pub R : RattleType
R = T.the_row

abbrev pub mach : Desk → Val
mach d = LL.val T.the_type T'.the_laws d

-- what whoever holds a desk knows
abbrev pub DeskKnown : Desk → Type 0
DeskKnown h = Is R h (mach h ∷ [])

-- two clauses of an `ensures` said
pub says_both : {M : Type 1} {𝓤 : Ura M} {𝓛 : Logic 𝓤} {K : Type 0} {Γ : List (Item 𝓤)} → K
    → {φ ψ : Type 0} {P : SProp 𝓤} → φ → ψ
    → Step K 𝓛 Γ (prop P) Γ (prop (sep 𝓤 P (sep 𝓤 (fact 𝓤 φ) (fact 𝓤 ψ))))
says_both {𝓤 = 𝓤} {𝓛 = 𝓛} {Γ = Γ} t {φ} {ψ} {P} x y =
    step (λ s. record {
      prf = via 𝓤 (sep 𝓤 (sep 𝓤 P (fact 𝓤 φ)) (fact 𝓤 ψ)) (says t {φ = ψ} {P = sep 𝓤 P (fact 𝓤 φ)} y $ says t {φ = φ} {P = P} x $
          s).prf (assoc∗ 𝓤 P (fact 𝓤 φ) (fact 𝓤 ψ));
    })

module _ {M : Type 1} {𝓤 : Ura M} {𝓛 : Logic 𝓤} {K : Type 0} {Γ : List (Item 𝓤)} {E : Env 𝓤 𝓛.H} where
  -- a local, where the environment has it
  open 𝓛 use {H}

  at : (t : K) (i : ℕ) (sp : Spot 𝓤 H) → spot_of 𝓤 H E i ≡ sp → {st : List PStep} {sp' : Spot 𝓤 H} → Walks K 𝓛 Γ E sp st sp' → Finds K 𝓛 Γ E (place i st) sp'
  at t i sp e {st} {sp'} w = from t (subst (λ (s : Spot 𝓤 H). Walks K 𝓛 Γ E s st sp') (sym e) w)

module _ (ν : Sym) (τ : Ty) (Row : RattleType) (whose : Row.Denot → Desk) (ans : Row.Denot → Val) where
  abbrev pub pair_ty : Ty
  pair_ty = ty_struct ν (tcons T'.mir (tcons τ tnil))

  abbrev pub pair_val : Row.Denot → Val
  pair_val r = vstruct (vcons (mach (whose r)) (vcons (ans r) vnil))

  -- what a machine value that stands for r tells
  pub record Tells (r : Row.Denot) (v : Val) : Type 0 where
    pub value-is : v ≡ pair_val r
    pub typed : Tᵇ (has_ty pair_ty v) × WT v
    pub desk_known : DeskKnown (whose r)
    pub answer_typed : Tᵇ (has_ty τ (ans r)) × WT (ans r)

  -- The statement `i = *d`, and those after the call: `k = j.desk;  *d = k;  result = j.answer;  return`.
  abbrev copied : ℕ → Stmts → Stmts
  copied i rest = seq (assign (place i []) (rv_opd (copy (place 1 (deref T'.mir ∷ []))))) rest

  abbrev written : ℕ → ℕ → Stmts
  written j k =
      seq (assign (place k []) (rv_opd (copy (place j (field 0 ∷ [])))))
      (seq (assign (place 1 (deref T'.mir ∷ [])) (rv_opd (copy (place k []))))
      (seq (assign (place 0 []) (rv_opd (copy (place j (field 1 ∷ []))))) return))

  module _ {M : Type 1} {𝓤 : Ura M} where
    -- What is at hand of a desk lent at h, beside Ex: where its borrow is closed, and where it is open.
    abbrev shut : Lft → Share → GName → ℕ → ℕ → Desk → Item 𝓤 → List (Item 𝓤) → List (Item 𝓤)
    shut κ q γ b o h Ex rest = ‵ (fobs γ (R.coded.code h)) ∷ ‵ (fbor κ (Body (mem R) b o γ)) ∷ ‵ (flft κ q) ∷ Ex ∷ rest

    abbrev unshut : Lft → Share → GName → ℕ → ℕ → Desk → Item 𝓤 → List (Item 𝓤) → List (Item 𝓤)
    unshut κ q γ b o h Ex rest =
        ‵ (R.own_val h (mach h ∷ [])) ∷ ‵ (cell_at full_share R.mir (mach h ∷ []) b o) ∷ ‵ (fobor κ q (Body (mem R) b o γ)) ∷
        ‵ (fobs γ (R.coded.code h)) ∷ ‵ (fauth γ (R.coded.code h)) ∷ Ex ∷ rest

    -- What is known of the callee: its contract c, used at x, is met by f; from what a desk owns of h, and Ex, it asks what it asks; what it leaves is what a
    -- Row owns of r, and Ex'.
    pub record Callee (𝓛 : Logic 𝓤) (C : Calls 𝓤 𝓛.H) (f : Name) (c : Contract 𝓤) (x : c.Ghost) (h : Desk) (r : Row.Denot)
        (Ex Ex' : Item 𝓤) : Type 1 where
      pub known : Triple 𝓤 (C f) c
      pub told : (v : Val) → Is Row r (v ∷ []) → Tells r v
      pub asks : ent 𝓤 (sep 𝓤 (sem 𝓛 (R.own_val h (mach h ∷ []))) (mean 𝓛 Ex)) (c.pre x)
      pub leaves : (v : Val) → ent 𝓤 (c.post x v) (𝓛.H.⇛ (sep 𝓤 (sem 𝓛 (Row.own_val r (v ∷ []))) (mean 𝓛 Ex')))

  module _ {M : Type 1} {𝓤 : Ura M} {𝓛 : Logic 𝓤} {K : Type 0} {Γ : List (Item 𝓤)}
      {E' : Env 𝓤 𝓛.H} {C : Calls 𝓤 𝓛.H} {Λ : Loops 𝓤 𝓛.H} {Kf : Val → SProp 𝓤} where
    -- The first statement: the borrow is opened, and the desk is copied.
    open 𝓛 use {H}

    pub thin-load : K → (l₀ l₁ lv : ℕ) (σ : Ty) {i : ℕ} → spot_of 𝓤 H ((τ, l₀) ∷ (σ, l₁) ∷ E') i ≡ (T'.mir, lv, 0)
        → (h : Desk) (Ex : Item 𝓤) {κ : Lft} {q : Share} {γ : GName} (b o : ℕ) {rest : Stmts}
        → Seq K 𝓛 (unshut κ q γ b o h Ex (‵ (fat full_share σ l₁ 0 (vptr b o)) ∷ ‵ (fat full_share T'.mir lv 0 (mach h)) ∷ Γ))
        (runs C Λ ((τ, l₀) ∷ (σ, l₁) ∷ E') rest (at_ret ((τ, l₀) ∷ (σ, l₁) ∷ E') Kf))
        → Seq K 𝓛 (shut κ q γ b o h Ex (‵ (fat full_share σ l₁ 0 (vptr b o)) ∷ ‵ (froom T'.mir lv 0) ∷ Γ))
        (runs C Λ ((τ, l₀) ∷ (σ, l₁) ∷ E') (copied i rest) (at_ret ((τ, l₀) ∷ (σ, l₁) ∷ E') Kf))
    thin-load t l₀ l₁ lv σ {i} ei h Ex b o k =
        opens t tt R {h = h} b o (λ vs.
        spelt t R (Is R) (shows 𝓛 R) (LL.vals T.the_type T'.the_laws) (LL.tells T.the_type T'.the_laws) full_share h vs b o $
        move t (1 ∷ []) $ peeks t R (Is R) (shows 𝓛 R) h (mach h ∷ []) (λ was.
        -- [what the desk owns; its cell; the open borrow; obs; auth; Ex; _1; room for i; …]
        assigns t (of_opd t (load t (from t (hop t (look t 6 refl) (stop t))) (look_raw t 1 refl))) (at t i _ ei (stop t))
        (init t 7 refl ((LL.lawful T.the_type T'.the_laws 𝓛).typed h _ was).0) $ k))

    -- The others: the call, the desk written back, the answer.
    pub thin-rest : K → (l₀ l₁ lv lo lw : ℕ) (σ : Ty) → FmC 𝓤 H 𝓛.laws C → {f : Name} {xs : List Operand} (c : Contract 𝓤) (x : c.Ghost) {j k : ℕ}
        → spot_of 𝓤 H ((τ, l₀) ∷ (σ, l₁) ∷ E') j ≡ (pair_ty, lo, 0) → spot_of 𝓤 H ((τ, l₀) ∷ (σ, l₁) ∷ E') k ≡ (T'.mir, lw, 0) → (h : Desk) (r : Row.Denot) (Ex Ex' : Item 𝓤) → Callee 𝓛 C f c x h r Ex Ex'
        → {κ : Lft} {q : Share} {γ : GName} (b o : ℕ)
        → ((k₀ k₁ k₂ k₃ k₄ k₅ : Item 𝓤) → Opds K 𝓛
        (k₀ ∷ k₁ ∷ k₂ ∷ k₃ ∷ k₄ ∷ k₅ ∷ ‵ (fat full_share T'.mir lv 0 (mach h)) ∷ ‵ (froom pair_ty lo 0) ∷ ‵ (froom T'.mir lw 0) ∷ ‵ (froom τ l₀ 0) ∷ Γ)
        ((τ, l₀) ∷ (σ, l₁) ∷ E') xs (c.args x))
        → ((v : Val) → Is Row r (v ∷ [])
        → Seq K 𝓛 (shut κ q γ b o (whose r) Ex' (‵ (fat full_share σ l₁ 0 (vptr b o)) ∷
        ‵ (fat full_share T'.mir lv 0 (mach h)) ∷ ‵ (fat full_share pair_ty lo 0 (pair_val r)) ∷
        ‵ (fat full_share T'.mir lw 0 (mach (whose r))) ∷ ‵ (fat full_share τ l₀ 0 (ans r)) ∷ Γ))
        (frees ((τ, l₀) ∷ (σ, l₁) ∷ E') (prop (Kf (ans r)))))
        → Seq K 𝓛 (unshut κ q γ b o h Ex (‵ (fat full_share σ l₁ 0 (vptr b o)) ∷
        ‵ (fat full_share T'.mir lv 0 (mach h)) ∷ ‵ (froom pair_ty lo 0) ∷ ‵ (froom T'.mir lw 0) ∷ ‵ (froom τ l₀ 0) ∷ Γ))
        (runs C Λ ((τ, l₀) ∷ (σ, l₁) ∷ E') (seq (call f xs (place j [])) (written j k)) (at_ret ((τ, l₀) ∷ (σ, l₁) ∷ E') Kf))
    thin-rest t l₀ l₁ lv lo lw σ fm c x {j} {k} ej ek h r Ex Ex' callee b o os next =
        move t (0 ∷ 5 ∷ []) $ use2 𝓛 (raw (c.pre x)) callee.asks $
        calls_at t fm c callee.known x (os _ _ _ _ _ _) (λ v.
        use1 𝓛 (later (‵ (Row.own_val r (v ∷ [])) ⊛ Ex')) (callee.leaves v) $ await t tt $ split t $
        peeks t Row (Is Row) (shows 𝓛 Row) r (v ∷ []) (λ is. drop t $
        -- [Ex'; the desk's cell; the open borrow; obs; auth; _1; i; room for j; room for k; room for _0; …]
        land t (at t j _ ej (stop t)) (init t 7 refl (callee.told v is).typed) $
        rewrite t 7 (λ (u : Val). ‵ (fat full_share pair_ty lo 0 u)) (callee.told v is).value-is refl $
        assigns t (of_opd t (load t (at t j _ ej (fld t refl (stop t))) (look_in t 7 (sub t 0 refl (whole t))))) (at t k _ ek (stop t))
        (init t 8 refl ((LL.lawful T.the_type T'.the_laws 𝓛).typed (whose r) _ (callee.told v is).desk_known).0) $
        assigns t (of_opd t (load t (at t k _ ek (stop t)) (look t 8 refl))) (from t (hop t (look t 5 refl) (stop t)))
        (store_raw t 1 refl ((LL.lawful T.the_type T'.the_laws 𝓛).typed (whose r) _ (callee.told v is).desk_known).0) $
        assigns t (of_opd t (load t (at t j _ ej (fld t refl (stop t))) (look_in t 7 (sub t 1 refl (whole t))))) (from t (stop t))
        (init t 9 refl (callee.told v is).answer_typed) $
        move t (1 ∷ []) $ owned t R (Is R) (LL.makes T.the_type T'.the_plain 𝓛) (whose r) _ (callee.told v is).desk_known $
        move t (1 ∷ 0 ∷ 3 ∷ 4 ∷ 5 ∷ []) $ closes t tt R (whose r) (mach (whose r) ∷ []) b o $
        -- [obs; the borrow; the token; Ex'; _1; i; j; k; _0; …]
        returns t (look t 8 refl) $ next v is))

  module _ {M : Type 1} {𝓤 : Ura M} {𝓛 : Logic 𝓤} {K : Type 0} {Γ : List (Item 𝓤)}
      {E' : Env 𝓤 𝓛.H} {C : Calls 𝓤 𝓛.H} {Λ : Loops 𝓤 𝓛.H} {Kf : Val → SProp 𝓤} where
    -- The whole body.
    open 𝓛 use {H}

    pub thin_body : K → (l₀ l₁ lv lo lw : ℕ) (σ : Ty) → FmC 𝓤 H 𝓛.laws C → {f : Name} {xs : List Operand} (c : Contract 𝓤) (x : c.Ghost) {i j k : ℕ}
        → spot_of 𝓤 H ((τ, l₀) ∷ (σ, l₁) ∷ E') i ≡ (T'.mir, lv, 0) → spot_of 𝓤 H ((τ, l₀) ∷ (σ, l₁) ∷ E') j ≡ (pair_ty, lo, 0)
        → spot_of 𝓤 H ((τ, l₀) ∷ (σ, l₁) ∷ E') k ≡ (T'.mir, lw, 0)
        → (h : Desk) (r : Row.Denot) (Ex Ex' : Item 𝓤) → Callee 𝓛 C f c x h r Ex Ex' → {κ : Lft} {q : Share} {γ : GName} (b o : ℕ)
        → ((k₀ k₁ k₂ k₃ k₄ k₅ : Item 𝓤) → Opds K 𝓛
        (k₀ ∷ k₁ ∷ k₂ ∷ k₃ ∷ k₄ ∷ k₅ ∷ ‵ (fat full_share T'.mir lv 0 (mach h)) ∷ ‵ (froom pair_ty lo 0) ∷ ‵ (froom T'.mir lw 0) ∷ ‵ (froom τ l₀ 0) ∷ Γ)
        ((τ, l₀) ∷ (σ, l₁) ∷ E') xs (c.args x))
        → ((v : Val) → Is Row r (v ∷ [])
        → Seq K 𝓛 (shut κ q γ b o (whose r) Ex' (‵ (fat full_share σ l₁ 0 (vptr b o)) ∷
        ‵ (fat full_share T'.mir lv 0 (mach h)) ∷ ‵ (fat full_share pair_ty lo 0 (pair_val r)) ∷
        ‵ (fat full_share T'.mir lw 0 (mach (whose r))) ∷ ‵ (fat full_share τ l₀ 0 (ans r)) ∷ Γ))
        (frees ((τ, l₀) ∷ (σ, l₁) ∷ E') (prop (Kf (ans r)))))
        → Seq K 𝓛 (shut κ q γ b o h Ex (‵ (fat full_share σ l₁ 0 (vptr b o)) ∷ ‵ (froom T'.mir lv 0) ∷ ‵ (froom pair_ty lo 0) ∷
        ‵ (froom T'.mir lw 0) ∷ ‵ (froom τ l₀ 0) ∷ Γ))
        (runs C Λ ((τ, l₀) ∷ (σ, l₁) ∷ E') (copied i (seq (call f xs (place j [])) (written j k))) (at_ret ((τ, l₀) ∷ (σ, l₁) ∷ E') Kf))
    thin_body t l₀ l₁ lv lo lw σ fm c x ei ej ek h r Ex Ex' callee b o os next =
        thin-load t l₀ l₁ lv σ ei h Ex b o (thin-rest t l₀ l₁ lv lo lw σ fm c x ej ek h r Ex Ex' callee b o os next)
