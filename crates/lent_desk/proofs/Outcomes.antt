-- What the machine value of what a change hands back tells, and of what opening hands back: for `Core.antt`.
use mathlib.Core.Path.{ap}
use Prim.Native.Nat.{◌<◌, ◌^◌}
use mathlib.Core.List.{[], ◌∷◌}
use seplogic.Ra.Ura.{Ura}
use mir.Syntax.{Sym, w8, ty_int}
use mir.Val.{Val, vint}
use types.Logic.{Logic}
use denote.Laws.{Is}
use denote.Steps.{only}
use denote.Struct.Laws as LL
use Rattle.desk_record.specs.declared.Changed.{Changed}
use Rattle.desk_record.specs.declared.Opened.{Opened}
use Rattle.rules.specs.declared.Checked.{Checked}
use Rattle.rules.specs.contracts.Checked as C
use Rattle.rules.proofs.Checked.TheLaws as C'
use Rattle.desk_record.specs.contracts.Changed as O
use Rattle.desk_record.proofs.Changed.TheLaws as O'
use Rattle.desk_record.specs.contracts.Opened as P
use Rattle.desk_record.proofs.Opened.TheLaws as P'
use Rattle.lent_desk.proofs.Core.{Tells}

abbrev pub ν : Sym
ν = (O.struct).name

pub answer-fits : (r : Changed) (v : Val) → Is O.the_row r (v ∷ []) → r.answer < 2 ^ 8
answer-fits r v is = (LL.owed O.the_type O'.the_laws r _ is).1.0.1

pub outcome_tells : {M : Type 1} {𝓤 : Ura M} (𝓛 : Logic 𝓤) (r : Changed) (v : Val) → Is O.the_row r (v ∷ [])
    → Tells ν (ty_int w8) O.the_row (λ (z : Changed). z.desk) (λ (z : Changed). vint w8 z.answer) r v
outcome_tells 𝓛 r v is = record {
  value-is = ap only (LL.tells O.the_type O'.the_laws r (v ∷ []) is);
  typed = ((LL.lawful O.the_type O'.the_laws 𝓛).typed r _ is).0;
  desk_known = (LL.owed O.the_type O'.the_laws r _ is).0;
  answer_typed = (tt, record { fits = answer-fits r v is });
}

abbrev pub ν-opened : Sym
ν-opened = (P.struct).name

-- the machine value of the counts
abbrev pub counts_val : Checked → Val
counts_val c = LL.val C.the_type C'.the_laws c

pub opened-counts : (r : Opened) (v : Val) → Is P.the_row r (v ∷ []) → Is C.the_row r.answer (counts_val r.answer ∷ [])
opened-counts r v is = (LL.owed P.the_type P'.the_laws r _ is).1.0

pub opened_tells : {M : Type 1} {𝓤 : Ura M} (𝓛 : Logic 𝓤) (r : Opened) (v : Val) → Is P.the_row r (v ∷ [])
    → Tells ν-opened C'.mir P.the_row (λ (z : Opened). z.desk) (λ (z : Opened). counts_val z.answer) r v
opened_tells 𝓛 r v is = record {
  value-is = ap only (LL.tells P.the_type P'.the_laws r (v ∷ []) is);
  typed = ((LL.lawful P.the_type P'.the_laws 𝓛).typed r _ is).0;
  desk_known = (LL.owed P.the_type P'.the_laws r _ is).0;
  answer_typed = ((LL.lawful C.the_type C'.the_laws 𝓛).typed r.answer _ (opened-counts r v is)).0;
}
