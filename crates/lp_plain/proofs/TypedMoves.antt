-- Each move of the definition leads from a typed state to a typed one.
use Rattle.std.proofs.Common.{ℕ, zero, suc, List, [], ◌∷◌, map, length, Bool, true, false, sym, subst}
use Rattle.std.specs.Prelude.{◌-◌, drop}
use Rattle.lp_lemmas.specs.Each.{EachOf}
use Rattle.lp_lemmas.proofs.Each.{each_append, each_drop}
use Rattle.lp_model.specs.Answers.{Query}
use Rattle.lp_model.specs.Branch.{Answer, Task, Go, Try, Stop, Lack}
use Rattle.lp_model.specs.Flat.{Clause}
use Rattle.lp_model.specs.Proofs.{Declared, no_leaf}
use Rattle.lp_model.specs.Search.{look}
use Rattle.lp_model.specs.Skeleton.{View, Gives, Opens, Parts, Takes, Cuts, Denies, Halts, Lacks, State, Inner, Refuted, Held, Broke, Lasts, Move, Goes, Tells, Stops, Breaks, Waits, move, move_at, move_denied, move_view}
use Rattle.lp_model.specs.Unify.{unit_limit}
use Rattle.lp_standard.specs.Schemes.{IsStandard}
use Rattle.lp_proof_laws.proofs.Uniform.Settings.{without_leaves}
use Rattle.lp_search_laws.specs.Branches.{IsOk, IsProgramTyped, TypedTask, denied_typing, going, lacking, no_query, stopping, task_of, trying}
use Rattle.lp_search_laws.specs.Views.{IsRightView, StandFor}
use Rattle.lp_search_laws.proofs.LooksRight.{each_look}
use Rattle.lp_plain.specs.TypedStates.{IsTaskTyped, IsTypedState}

-- of the tasks that a look leaves; the search of a negated goal is one of no query
abbrev pub IsViewTyped : (n : ℕ) → Declared → (P : List Clause) → Query → View Task Answer → Type 0
IsViewTyped n d P q (Gives a) = Unit {0}
IsViewTyped n d P q (Opens ts) = EachOf (IsTaskTyped n d P q) ts
IsViewTyped n d P q (Parts ts) = EachOf (IsTaskTyped n d P q) ts
IsViewTyped n d P q (Takes name ts) = EachOf (IsTaskTyped n d P q) ts
IsViewTyped n d P q (Cuts m ts) = EachOf (IsTaskTyped n d P q) ts
IsViewTyped n d P q (Denies t f ts) = IsTaskTyped n d P no_query t × EachOf (IsTaskTyped n d P q) ts
IsViewTyped n d P q (Halts e) = Unit {0}
IsViewTyped n d P q Lacks = Unit {0}

-- the search goes on in such a state
abbrev pub IsMoveTyped : (n : ℕ) → Declared → (P : List Clause) → Query → Move Task Answer → Type 0
IsMoveTyped n d P q (Goes k ns t) = IsTypedState n d P q t
IsMoveTyped n d P q (Tells a ns t) = IsTypedState n d P q t
IsMoveTyped n d P q (Stops e) = Unit {0}
IsMoveTyped n d P q (Breaks k ns e) = Unit {0}
IsMoveTyped n d P q (Waits k ns) = Unit {0}

module _ (n : ℕ) (d : Declared) (P : List Clause) (q : Query) where
  one_typed : (T : TypedTask) → IsOk n d P q T → IsTaskTyped n d P q (task_of T)
  one_typed (going y b) h = (y, h)
  one_typed (trying y c t e b mark) h = (y, h)
  one_typed (stopping e T) h = h
  one_typed (lacking T) h = tt

  each_typed : (Ts : List TypedTask) → EachOf (IsOk n d P q) Ts → EachOf (IsTaskTyped n d P q) (map task_of Ts)
  each_typed [] h = tt
  each_typed (T ∷ Ts) h = (one_typed T h.0, each_typed Ts h.1)

  left_typed : (T : TypedTask) (ts : List Task) → StandFor no_leaf n d P q T ts → EachOf (IsTaskTyped n d P q) ts
  left_typed T ts r = subst (EachOf (IsTaskTyped n d P q)) r.is (each_typed r.typed r.ok)

  view_typed : (T : TypedTask) (v : View Task Answer) → IsRightView no_leaf n d P q T v → IsViewTyped n d P q v
  view_typed T (Gives a) r = tt
  view_typed T (Opens ts) r = left_typed T ts r
  view_typed T (Parts ts) r = left_typed T ts r
  view_typed T (Takes name ts) r = left_typed T ts r
  view_typed T (Cuts m ts) r = left_typed T ts r
  view_typed T (Denies t f ts) r = (
    subst (IsTaskTyped n d P no_query) (sym r.is) (denied_typing r.variables r.eigens r.goals, r.begins),
    subst (EachOf (IsTaskTyped n d P q)) (sym r.goes_on) ((r.rest_typing, r.after), tt),
  )
  view_typed T (Halts e) r = tt
  view_typed T Lacks r = tt

  module _ (std : IsStandard d) (program : EachOf (IsProgramTyped d) P) where
    pub typed_look : (height : ℕ) (t : Task) → IsTaskTyped n d P q t → IsViewTyped n d P q (look unit_limit n P height t)
    typed_look height (Go b) w = view_typed (going w.0 b) (look unit_limit n P height (Go b)) (each_look n d (without_leaves d std) P program q height (going w.0 b) w.1)
    typed_look height (Try c t e b mark) w =
        view_typed (trying w.0 c t e b mark) (look unit_limit n P height (Try c t e b mark)) (each_look n d (without_leaves d std) P program q height (trying w.0 c t e b mark) w.1)
    typed_look height (Stop e) w = tt
    typed_look height Lack w = tt

    module _ (go : (Answer → Bool) → State Task → Inner) where
      by_inner : (m k g v : ℕ) (lost : Bool) (ts rest : List Task) → EachOf (IsTaskTyped n d P q) ts → EachOf (IsTaskTyped n d P q) rest → (i : Inner)
          → IsMoveTyped n d P q (move_denied m k g v lost ts rest i)
      by_inner m k g v lost ts rest w h (Refuted j ns p) = each_append (IsTaskTyped n d P q) ts rest w h
      by_inner m k g v lost ts rest w h (Held j ns p) = h
      by_inner m k g v lost ts rest w h (Broke j ns e) = tt
      by_inner m k g v lost ts rest w h (Lasts j ns) = tt

      by_view : (m k g v p : ℕ) (lost : Bool) (rest : List Task) → EachOf (IsTaskTyped n d P q) rest → (x : View Task Answer) → IsViewTyped n d P q x
          → IsMoveTyped n d P q (move_view go m k g v p lost rest x)
      by_view m k g v p lost rest h (Gives a) w = h
      by_view m k g v p lost rest h (Opens ts) w = each_append (IsTaskTyped n d P q) ts rest w h
      by_view m k g v zero lost rest h (Parts ts) w = tt
      by_view m k g v (suc p) lost rest h (Parts ts) w = each_append (IsTaskTyped n d P q) ts rest w h
      by_view zero k g v p lost rest h (Takes name ts) w = tt
      by_view (suc m) k g v p lost rest h (Takes name ts) w = each_append (IsTaskTyped n d P q) ts rest w h
      by_view zero k g v p lost rest h (Cuts i ts) w = tt
      by_view (suc m) k g v p lost rest h (Cuts i ts) w =
          each_append (IsTaskTyped n d P q) ts (drop (length rest - i) rest) w (each_drop (IsTaskTyped n d P q) (length rest - i) rest h)
      by_view zero k g v p lost rest h (Denies t f ts) w = tt
      by_view (suc m) k g v p lost rest h (Denies t f ts) w = by_inner m k g v lost ts rest w.1 h (go f _)
      by_view m k g v p lost rest h (Halts e) w = tt
      by_view m k g v p lost rest h Lacks w = tt

      at_stack : (m k g v p : ℕ) (lost : Bool) (stack : List Task) → EachOf (IsTaskTyped n d P q) stack → IsMoveTyped n d P q (move_at go (look unit_limit n P) m k g v p lost stack)
      at_stack m zero g v p lost stack h = tt
      at_stack m (suc k) g v p true [] h = tt
      at_stack m (suc k) g v p false [] h = tt
      at_stack m (suc k) g v p true (t ∷ rest) h = by_view m k g v p true rest h.1 (look unit_limit n P (length rest) t) (typed_look (length rest) t h.0)
      at_stack m (suc k) g v p false (t ∷ rest) h = by_view m k g v p false rest h.1 (look unit_limit n P (length rest) t) (typed_look (length rest) t h.0)

      pub typed_move : (s : State Task) → IsTypedState n d P q s → IsMoveTyped n d P q (move go (look unit_limit n P) s)
      typed_move s h = at_stack s.steps s.answers s.given s.rows s.row s.lost s.stack h
