-- Each move that meets no clause leaves less to do.
use Rattle.std.proofs.Common.{◌≡◌, ℕ, suc, ◌+◌, ◌<◌, ◌≤◌, List, [], ◌∷◌, ◌++◌, refl, ap, ◌∙◌, subst, arith, Option, Some, None, ◌⊎◌, inl, inr}
use Rattle.std.specs.Prelude.{All, IfSome, Bool, true, false, nat_eq, nat_lt, if◌then◌else◌}
use Rattle.std.proofs.lemmas.List.Elements.{All-head, All-tail}
use Rattle.lp_calculus.specs.Types.{Ty}
use Rattle.lp_calculus.specs.Term.{Term, index, atom, abs, app, shift, constant, integer, text, eigen, logic, param}
use Rattle.lp_calculus.specs.Spine.{head_of, arguments_and}
use Rattle.lp_standard.specs.Connectives.{body_of, Connective, connective_at, connective_of}
use Rattle.lp_standard.specs.Connectives as connective
use Rattle.lp_standard.specs.Numbers as number
use Rattle.lp_term.specs.Nodes.{Nodes, Extends}
use Rattle.lp_term.specs.declared.node.TermId.{TermId}
use Rattle.lp_term.proofs.Trees.{extends_same}
use Rattle.lp_normal.specs.Within.{IsWaitingIn, IsGoalListIn, IsPartIn, IsAssumedIn, IsClauseListIn, IsFrameIn, IsInnerIn}
use Rattle.lp_normal.specs.inner.Work.{weight, formula_work, waiting_work, list_work, part_work, parts_work, assumed_work, clause_list_work, frame_work, frames_work, inner_work}
use Rattle.lp_normal.specs.declared.goals.Waiting.{Waiting}
use Rattle.lp_normal.specs.declared.goals.GoalList.{GoalList}
use Rattle.lp_normal.specs.declared.clauses.Part.{Part}
use Rattle.lp_normal.specs.declared.clauses.Assumed.{Assumed}
use Rattle.lp_normal.specs.declared.clauses.ClauseList.{ClauseList}
use Rattle.lp_normal.specs.declared.frame.Frame.{Frame}
use Rattle.lp_normal.specs.declared.frame.Inner.{Inner}
use Rattle.lp_normal.proofs.Bounds.{all_popped}
use Rattle.lp_normal.proofs.Shifts.{body_shift}

-- raised terms, and bodies of quantifiers

index_weight : (c : Bool) (i j : ℕ) → weight (if c then index i else index j) ≡ 0
index_weight true i j = refl
index_weight false i j = refl

pub shift_weight : (d k : ℕ) (t : Term) → weight (shift d k t) ≡ weight t
shift_weight d k (index i) = index_weight (nat_lt i d) i (i + k)
shift_weight d k (atom a) = refl
shift_weight d k (abs b) = ap suc (shift_weight (suc d) k b)
shift_weight d k (app t u) = omega (arith, shift_weight d k t, shift_weight d k u)

body_weight : (t : Term) → weight (body_of t) ≤ suc (weight t)
body_weight (index i) = omega (arith, shift_weight 0 1 (index i))
body_weight (atom a) = omega arith
body_weight (abs b) = omega arith
body_weight (app t u) = omega (arith, shift_weight 0 1 (app t u))

pub raised_body_weight : (k : ℕ) (t : Term) → weight (body_of (shift 0 k t)) ≡ weight (body_of t)
raised_body_weight k t = ap weight (body_shift 0 k t) ∙ shift_weight 1 k (body_of t)

-- the parts of a formula weigh less than it

abbrev all_weigh : List Term → ℕ
all_weigh [] = 0
all_weigh (t ∷ ts) = suc (weight t) + all_weigh ts

spine_weight : (t : Term) (more : List Term) → weight (head_of t) + all_weigh (arguments_and t more) ≡ weight t + all_weigh more
spine_weight (index i) more = refl
spine_weight (atom a) more = refl
spine_weight (abs b) more = refl
spine_weight (app t u) more = omega (arith, spine_weight t (u ∷ more))

abbrev pub IsLighter : Connective → (whole : ℕ) → Type 0
IsLighter connective.True n = Unit {0}
IsLighter connective.Cut n = Unit {0}
IsLighter (connective.And a b) n = weight a + weight b < n
IsLighter (connective.Or a b) n = weight a + weight b < n
IsLighter (connective.Implies c g) n = weight c + weight g < n
IsLighter (connective.ForAll T b) n = weight b < n
IsLighter (connective.Exists T b) n = weight b < n
IsLighter (connective.Not g) n = weight g < n
IsLighter connective.Atomic n = Unit {0}

one_of : (n : ℕ) (c : Bool) (f g : Connective) → IsLighter f n → IsLighter g n → IsLighter (if c then f else g) n
one_of n true f g p q = p
one_of n false f g p q = q

constant_lighter : (c : ℕ) (ts : List Ty) (us : List Term) → IsLighter (connective_at (atom (constant c ts)) us) (suc (all_weigh us))
constant_lighter c [] [] = one_of 1 (nat_eq c number.True) connective.True (if nat_eq c number.Cut then connective.Cut else connective.Atomic) tt (one_of 1 (nat_eq c number.Cut) connective.Cut connective.Atomic tt tt)
constant_lighter c (T ∷ ts) [] = one_of 1 (nat_eq c number.True) connective.True (if nat_eq c number.Cut then connective.Cut else connective.Atomic) tt (one_of 1 (nat_eq c number.Cut) connective.Cut connective.Atomic tt tt)
constant_lighter c [] (a ∷ []) = one_of (suc (all_weigh (a ∷ []))) (nat_eq c number.Not) (connective.Not a) connective.Atomic (omega arith) tt
constant_lighter c (T ∷ []) (a ∷ []) =
    let n = suc (all_weigh (a ∷ [])) in
    let p = body_weight a in
    one_of n (nat_eq c number.ForAll) (connective.ForAll T (body_of a)) (if nat_eq c number.Exists then connective.Exists T (body_of a) else connective.Atomic) (omega (arith, p))
    (one_of n (nat_eq c number.Exists) (connective.Exists T (body_of a)) connective.Atomic (omega (arith, p)) tt)
constant_lighter c (T ∷ U ∷ ts) (a ∷ []) = tt
constant_lighter c [] (a ∷ b ∷ []) =
    let n = suc (all_weigh (a ∷ b ∷ [])) in
    let last = if nat_eq c number.If then connective.Implies b a else connective.Atomic in
    let third = if nat_eq c number.Implies then connective.Implies a b else last in
    let second = if nat_eq c number.Or then connective.Or a b else third in
    one_of n (nat_eq c number.And) (connective.And a b) second (omega arith)
    (one_of n (nat_eq c number.Or) (connective.Or a b) third (omega arith)
    (one_of n (nat_eq c number.Implies) (connective.Implies a b) last (omega arith) (one_of n (nat_eq c number.If) (connective.Implies b a) connective.Atomic (omega arith) tt)))
constant_lighter c (T ∷ []) (a ∷ b ∷ us) = tt
constant_lighter c (T ∷ U ∷ ts) (a ∷ b ∷ us) = tt
constant_lighter c [] (a ∷ b ∷ x ∷ us) = tt

head_lighter : (h : Term) (us : List Term) → IsLighter (connective_at h us) (weight h + all_weigh us)
head_lighter (index i) us = tt
head_lighter (abs b) us = tt
head_lighter (app t u) us = tt
head_lighter (atom (constant c ts)) us = let e : suc (all_weigh us) ≡ 1 + all_weigh us = omega arith in subst (IsLighter (connective_at (atom (constant c ts)) us)) e (constant_lighter c ts us)
head_lighter (atom (integer z)) us = tt
head_lighter (atom (text s)) us = tt
head_lighter (atom (eigen k)) us = tt
head_lighter (atom (logic x l)) us = tt
head_lighter (atom (param k t)) us = tt

pub lighter : (t : Term) (f : Connective) → connective_of t ≡ f → IsLighter f (weight t)
lighter t f e =
    let n : weight (head_of t) + all_weigh (arguments_and t []) ≡ weight t = spine_weight t [] ∙ (let z : weight t + 0 ≡ weight t = omega arith in z) in
    subst (λ z. IsLighter z (weight t)) e (subst (IsLighter (connective_of t)) n (head_lighter (head_of t) (arguments_and t [])))

-- what is put behind

module _ (b : Nodes) where
  pub waiting_pushed : (all ws : List Waiting) (w : Waiting) → all ≡ ws ++ w ∷ [] → waiting_work b all ≡ waiting_work b ws + formula_work b w
  waiting_pushed all ws w e = ap (waiting_work b) e ∙ go ws
    where
      go : (xs : List Waiting) → waiting_work b (xs ++ w ∷ []) ≡ waiting_work b xs + formula_work b w
      go [] = omega arith
      go (x ∷ xs) = omega (arith, go xs)

  pub parts_pushed : (all ps : List Part) (p : Part) → all ≡ ps ++ p ∷ [] → parts_work b all ≡ parts_work b ps + part_work b p
  parts_pushed all ps p e = ap (parts_work b) e ∙ go ps
    where
      go : (xs : List Part) → parts_work b (xs ++ p ∷ []) ≡ parts_work b xs + part_work b p
      go [] = omega arith
      go (x ∷ xs) = omega (arith, go xs)

  pub frames_work_pushed : (all fs : List Frame) (f : Frame) → all ≡ fs ++ f ∷ [] → frames_work b all ≡ frames_work b fs + frame_work b f
  frames_work_pushed all fs f e = ap (frames_work b) e ∙ go fs
    where
      go : (xs : List Frame) → frames_work b (xs ++ f ∷ []) ≡ frames_work b xs + frame_work b f
      go [] = omega arith
      go (x ∷ xs) = omega (arith, go xs)

  -- none is left

  pub waiting_popped : (all ws : List Waiting) → all ≡ ws ++ [] → waiting_work b all ≡ waiting_work b ws
  waiting_popped all ws e = ap (waiting_work b) (all_popped all ws e)

  pub parts_popped : (all ps : List Part) → all ≡ ps ++ [] → parts_work b all ≡ parts_work b ps
  parts_popped all ps e = ap (parts_work b) (all_popped all ps e)

  -- lists

  pub same_work : (m l : GoalList) → m.waiting ≡ l.waiting → list_work b m ≡ list_work b l
  same_work m l e = ap (λ w. suc (waiting_work b w.items)) e

  pub new_work : (m : GoalList) (w : Waiting) → m.waiting.items ≡ w ∷ [] → list_work b m ≡ suc (formula_work b w)
  new_work m w e = omega (arith, ap (waiting_work b) e)

  pub one_more_work : (m l : GoalList) (w : Waiting) → m.waiting.items ≡ l.waiting.items ++ w ∷ [] → list_work b m ≡ list_work b l + formula_work b w
  one_more_work m l w e = omega (arith, waiting_pushed m.waiting.items l.waiting.items w e)

  pub two_more_work : (m l : GoalList) (v w : Waiting) → m.waiting.items ≡ (l.waiting.items ++ v ∷ []) ++ w ∷ [] → list_work b m ≡ list_work b l + formula_work b v + formula_work b w
  two_more_work m l v w e = omega (arith, waiting_pushed m.waiting.items (l.waiting.items ++ v ∷ []) w e, waiting_pushed (l.waiting.items ++ v ∷ []) l.waiting.items v refl)

  pub new_clauses_work : (m : ClauseList) (t : TermId) (o : Option Assumed) → m.assumed ≡ o → m.waiting.items ≡ Part.Visit t ∷ [] → clause_list_work b m ≡ suc (part_work b (Part.Visit t) + assumed_work b o)
  new_clauses_work m t o a e = omega (arith, ap (parts_work b) e, ap (assumed_work b) a)

  pub same_clauses_work : (m l : ClauseList) → m.assumed ≡ l.assumed → m.waiting ≡ l.waiting → clause_list_work b m ≡ clause_list_work b l
  same_clauses_work m l a e = omega (arith, ap (assumed_work b) a, ap (λ w. parts_work b w.items) e)

  pub two_parts_work : (m l : ClauseList) (p q : Part) → m.assumed ≡ l.assumed → m.waiting.items ≡ (l.waiting.items ++ p ∷ []) ++ q ∷ [] → clause_list_work b m ≡ clause_list_work b l + part_work b p + part_work b q
  two_parts_work m l p q a e =
      omega (arith, ap (assumed_work b) a, parts_pushed m.waiting.items (l.waiting.items ++ p ∷ []) q e, parts_pushed (l.waiting.items ++ p ∷ []) l.waiting.items p refl)

-- the body of a quantifier weighs less than it
pub body_lighter : (body whole u : Term) (k : ℕ) (f : Connective) → connective_of whole ≡ f → body ≡ body_of (shift 0 k u) → ((n : ℕ) → IsLighter f n → weight (body_of u) < n) → weight body < weight whole
body_lighter body whole u k f e is g = omega (arith, ap weight is, raised_body_weight k u, g (weight whole) (lighter whole f e))

-- a bank that grows changes nothing

module _ (b c : Nodes) (x : Extends b c) where
  waiting_later : (n : ℕ) (ws : List Waiting) → All (IsWaitingIn b n) ws → waiting_work c ws ≡ waiting_work b ws
  waiting_later n [] a = refl
  waiting_later n (w ∷ ws) a =
      omega (arith, ap weight (x.same_terms w.formula.0 (All-head (IsWaitingIn b n) w ws a).formula), waiting_later n ws (All-tail (IsWaitingIn b n) w ws a))

  list_later : (l : GoalList) → IsGoalListIn b l → list_work c l ≡ list_work b l
  list_later l i = ap suc (waiting_later l.level l.waiting.items i.waiting)

  parts_later : (ps : List Part) → All (IsPartIn b) ps → parts_work c ps ≡ parts_work b ps
  parts_later [] a = refl
  parts_later (Part.Visit t ∷ ps) a = omega (arith, ap weight (x.same_terms t.0 (All-head (IsPartIn b) (Part.Visit t) ps a)), parts_later ps (All-tail (IsPartIn b) (Part.Visit t) ps a))
  parts_later (Part.Leave ∷ ps) a = omega (arith, parts_later ps (All-tail (IsPartIn b) Part.Leave ps a))

  assumed_later : (o : Option Assumed) → IfSome o (IsAssumedIn b) → assumed_work c o ≡ assumed_work b o
  assumed_later None i = refl
  assumed_later (Some a) i = omega (arith, list_later a.outer i.outer, ap weight (x.same_terms a.goal.formula.0 i.goal.formula))

  clause_list_later : (l : ClauseList) → IsClauseListIn b l → clause_list_work c l ≡ clause_list_work b l
  clause_list_later l i = omega (arith, parts_later l.waiting.items i.waiting, assumed_later l.assumed i.assumed)

  frame_later : (f : Frame) → IsFrameIn b f → frame_work c f ≡ frame_work b f
  frame_later (Frame.Left o w) i = omega (arith, list_later o i.0, ap weight (x.same_terms w.formula.0 i.1.formula))
  frame_later (Frame.Right o l) i = list_later o i.0
  frame_later (Frame.All o T) i = list_later o i.0
  frame_later (Frame.Assume o l) i = list_later o i.0
  frame_later (Frame.Not o) i = list_later o i
  frame_later (Frame.Body o vars head) i = clause_list_later o i.0

  pub frames_later : (fs : List Frame) → All (IsFrameIn b) fs → frames_work c fs ≡ frames_work b fs
  frames_later [] a = refl
  frames_later (f ∷ fs) a = omega (arith, frame_later f (All-head (IsFrameIn b) f fs a), frames_later fs (All-tail (IsFrameIn b) f fs a))

  pub inner_later : (i : Inner) → IsInnerIn b i → inner_work c i ≡ inner_work b i
  inner_later (Inner.Goals l) i = list_later l i
  inner_later (Inner.Clauses l) i = clause_list_later l i

-- a move that meets no clause leaves less to do, in the bank as it is then
pub works_less : (b c : Nodes) → Extends b c → (old new : Inner) (fs gs : List Frame) (before after : ℕ) → IsInnerIn b old → All (IsFrameIn b) fs → after ≡ before →
    (before < after) ⊎ (((d : Nodes) → Extends c d → inner_work d new + frames_work d gs < inner_work d old + frames_work d fs)) → inner_work c new + frames_work c gs < inner_work b old + frames_work b fs
works_less b c x old new fs gs before after i a same (inl l) = absurd (omega (arith, same, l))
works_less b c x old new fs gs before after i a same (inr f) = omega (arith, f c (extends_same c), inner_later b c x old i, frames_later b c x fs a)
