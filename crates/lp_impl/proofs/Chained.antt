-- Lists of entries.
use Rattle.std.proofs.Common.{◌≡◌, ℕ, zero, suc, ◌≤◌, ◌<◌, List, [], ◌∷◌, ◌++◌, length, drop, get_or, Option, Some, None, refl, sym, ap, ◌∙◌, subst, arith}
use Rattle.std.specs.Prelude.{slice_get}
use Rattle.std.proofs.lemmas.Option.{slice_get_within, slice_get_read, slice_get_past}
use Rattle.lp_lemmas.proofs.Lists.{get_push, get_append}
use Rattle.lp_impl.specs.declared.assumptions.Entry.{Entry}
use Rattle.lp_impl.specs.declared.assumptions.Assumed.{Assumed}
use Rattle.lp_impl.specs.Chains.{Said, Found, said, reach, AreSaid, clauses_said, matching, in_front, clause_for, without_newest}
use Rattle.lp_impl.specs.declared.head.Head.{Head}

-- more entries behind change nothing
pub said_still : (es more : List Entry) (o : Option ℕ) (ss : List Said) → AreSaid es o ss → AreSaid (es ++ more) o ss
said_still es more o [] h = h
said_still es more o (s ∷ ss) (i, e, a, b, c, d, f) = (i, e, a, get_append es more i e b, c, d, said_still es more e.older ss f)

pub said_on : (es new : List Entry) → (more : List Entry) × (new ≡ es ++ more) → (o : Option ℕ) (ss : List Said) → AreSaid es o ss → AreSaid new o ss
said_on es new (more, p) o ss h = subst (λ z. AreSaid z o ss) (sym p) (said_still es more o ss h)

-- what entries are said from lies within them
pub reaches_within : (es : List Entry) (o : Option ℕ) (ss : List Said) → AreSaid es o ss → reach o ≤ length es
reaches_within es o [] h = subst (λ z. reach z ≤ length es) (sym h) (omega arith)
reaches_within es o (s ∷ ss) (i, e, a, b, c, d, f) = let w : i < length es = slice_get_within es i e b in subst (λ z. reach z ≤ length es) (sym a) (omega (arith, w))

-- one more entry in front
pub one_more : (es : List Entry) (e : Entry) (ss : List Said) → AreSaid es e.older ss → AreSaid (es ++ e ∷ []) (Some (length es)) (said e ∷ ss)
one_more es e ss h = (length es, e, refl, get_push es e, reaches_within es e.older ss h, refl, said_still es (e ∷ []) e.older ss h)

pub put_in_front : (es new : List Entry) (e : Entry) (n : ℕ) → n ≡ length es → new ≡ es ++ e ∷ [] → (ss : List Said) → AreSaid es e.older ss → AreSaid new (Some n) (said e ∷ ss)
put_in_front es new e n p q ss h = subst (λ z. AreSaid z (Some n) (said e ∷ ss)) (sym q) (subst (λ z. AreSaid (es ++ e ∷ []) (Some z) (said e ∷ ss)) (sym p) (one_more es e ss h))

-- the first entry, and those behind it
pub record FirstSaid (es : List Entry) (i : ℕ) (e : Entry) (ss : List Said) : Type 0 where
  pub rest : List Said
  pub whole : ss ≡ said e ∷ rest
  pub below : reach e.older ≤ i
  pub behind : AreSaid es e.older rest

pub first_said : (es : List Entry) (o : Option ℕ) (i : ℕ) (e : Entry) → o ≡ Some i → slice_get es i ≡ Some e → (ss : List Said) → AreSaid es o ss → FirstSaid es i e ss
first_said es o i e p q [] h = absurd (let z : Some i ≡ None = sym p ∙ h in cc)
first_said es o i e p q (s ∷ ss) (j, f, a, b, c, d, g) =
    let ij : j ≡ i = (let z : Some j ≡ Some i = sym a ∙ p in cc) in
    let fe : f ≡ e = (let z : Some f ≡ Some e = sym b ∙ ap (slice_get es) ij ∙ q in cc) in
    record {
      rest = ss;
      whole = ap (λ z. z ∷ ss) (d ∙ ap said fe);
      below = subst (λ z. reach z.older ≤ i) fe (subst (λ z. reach f.older ≤ z) ij c);
      behind = subst (λ z. AreSaid es z.older ss) fe g;
    }

pub no_first : (es : List Entry) (o : Option ℕ) (i : ℕ) → o ≡ Some i → slice_get es i ≡ None → (ss : List Said) → AreSaid es o ss → (z : Type 0) → z
no_first es o i p q [] h z = absurd (let w : Some i ≡ None = sym p ∙ h in cc)
no_first es o i p q (s ∷ ss) (j, f, a, b, c, d, g) z = absurd (let ij : j ≡ i = (let w : Some j ≡ Some i = sym a ∙ p in cc) in let w : Some f ≡ None = sym b ∙ ap (slice_get es) ij ∙ q in cc)

pub said_nothing : (es : List Entry) (o : Option ℕ) → o ≡ None → (ss : List Said) → AreSaid es o ss → ss ≡ []
said_nothing es o p [] h = refl
said_nothing es o p (s ∷ ss) (j, f, a, b, c, d, g) = absurd (let w : Some j ≡ None = sym a ∙ p in cc)

-- the search for the end of the newest assumption

abbrev pub LeavesOf : List Entry → (at : Option ℕ) → List Said → Type 0
LeavesOf es at ss = (rest : List Said) × AreSaid es at rest × (without_newest ss ≡ without_newest rest)

pub left_none : (es : List Entry) (at : Option ℕ) → at ≡ None → (ss : List Said) → LeavesOf es at ss → AreSaid es None (without_newest ss)
left_none es at p ss (rest, a, e) = let r = said_nothing es at p rest a in subst (AreSaid es None) (sym (e ∙ ap without_newest r)) refl

pub left_past : (es : List Entry) (at : Option ℕ) (i : ℕ) → at ≡ Some i → slice_get es i ≡ None → (ss : List Said) → LeavesOf es at ss → AreSaid es None (without_newest ss)
left_past es at i p q ss (rest, a, e) = no_first es at i p q rest a _

left_begun : (s : Said) (ss : List Said) → s.assumed ≡ None → without_newest (s ∷ ss) ≡ ss
left_begun s ss p = go s.assumed p
  where
    go : (o : Option Assumed) → o ≡ None → without_newest (record { assumed = o; frame = s.frame } ∷ ss) ≡ ss
    go None q = refl
    go (Some a) q = absurd (cc)

left_clause : (s : Said) (ss : List Said) (a : Assumed) → s.assumed ≡ Some a → without_newest (s ∷ ss) ≡ without_newest ss
left_clause s ss a p = go s.assumed p
  where
    go : (o : Option Assumed) → o ≡ Some a → without_newest (record { assumed = o; frame = s.frame } ∷ ss) ≡ without_newest ss
    go None q = absurd (cc)
    go (Some b) q = refl

pub left_here : (es : List Entry) (at : Option ℕ) (i : ℕ) (e : Entry) → at ≡ Some i → slice_get es i ≡ Some e → e.assumed ≡ None → (next : Option ℕ) → (reach e.older ≤ i → next ≡ e.older) →
    (ss : List Said) → LeavesOf es at ss → AreSaid es next (without_newest ss)
left_here es at i e p q n next same ss (rest, a, w) =
    let f = first_said es at i e p q rest a in
    subst (AreSaid es next) (sym (w ∙ ap without_newest f.whole ∙ left_begun (said e) f.rest n)) (subst (λ z. AreSaid es z f.rest) (sym (same f.below)) f.behind)

pub left_on : (es : List Entry) (at : Option ℕ) (i : ℕ) (e : Entry) → at ≡ Some i → slice_get es i ≡ Some e → (b : Assumed) → e.assumed ≡ Some b → (next : Option ℕ) → (reach e.older ≤ i → next ≡ e.older) →
    (ss : List Said) → LeavesOf es at ss → LeavesOf es next ss
left_on es at i e p q b n next same ss (rest, a, w) =
    let f = first_said es at i e p q rest a in
    (f.rest, subst (λ z. AreSaid es z f.rest) (sym (same f.below)) f.behind, w ∙ ap without_newest f.whole ∙ left_clause (said e) f.rest b n)

-- the search for a clause

abbrev pub MatchesOf : Head → List Entry → (at : Option ℕ) → List Said → Type 0
MatchesOf h es at ss = (rest : List Said) × AreSaid es at rest × (matching h ss ≡ matching h rest)

pub matched_none : (h : Head) (es : List Entry) (at : Option ℕ) → at ≡ None → (ss : List Said) → MatchesOf h es at ss → matching h ss ≡ []
matched_none h es at p ss (rest, a, e) = let r = said_nothing es at p rest a in e ∙ ap (matching h) r

pub matched_past : (h : Head) (es : List Entry) (at : Option ℕ) (i : ℕ) → at ≡ Some i → slice_get es i ≡ None → (ss : List Said) → MatchesOf h es at ss → matching h ss ≡ []
matched_past h es at i p q ss (rest, a, e) = no_first es at i p q rest a _

pub matched_on : (h : Head) (es : List Entry) (at : Option ℕ) (i : ℕ) (e : Entry) → at ≡ Some i → slice_get es i ≡ Some e → clause_for h e.assumed ≡ None → (next : Option ℕ) → (reach e.older ≤ i → next ≡ e.older) →
    (ss : List Said) → MatchesOf h es at ss → MatchesOf h es next ss
matched_on h es at i e p q n next same ss (rest, a, w) =
    let f = first_said es at i e p q rest a in
    (f.rest, subst (λ z. AreSaid es z f.rest) (sym (same f.below)) f.behind, w ∙ ap (matching h) f.whole ∙ ap (λ z. in_front z e.frame (matching h f.rest)) n)

pub matched_here : (h : Head) (es : List Entry) (at : Option ℕ) (i : ℕ) (e : Entry) → at ≡ Some i → slice_get es i ≡ Some e → (clause : ℕ) → clause_for h e.assumed ≡ Some clause → (next : Option ℕ) → (reach e.older ≤ i → next ≡ e.older) →
    (ss : List Said) → MatchesOf h es at ss → (behind : List Said) × AreSaid es next behind × (matching h ss ≡ record { clause = clause; frame = e.frame } ∷ matching h behind)
matched_here h es at i e p q clause n next same ss (rest, a, w) =
    let f = first_said es at i e p q rest a in
    (f.rest, subst (λ z. AreSaid es z f.rest) (sym (same f.below)) f.behind, w ∙ ap (matching h) f.whole ∙ ap (λ z. in_front z e.frame (matching h f.rest)) n)

-- reading one entry

pub get_is : {X : Type 0} (xs ys : List X) (i : ℕ) (x : X) → ys ≡ xs → i < length ys → x ≡ get_or ys i x → slice_get xs i ≡ Some x
get_is xs ys i x e h p = ap (λ z. slice_get z i) (sym e) ∙ slice_get_read ys (length ys) i x refl h p

pub get_none : {X : Type 0} (xs ys : List X) (i : ℕ) → ys ≡ xs → length ys ≤ i → slice_get xs i ≡ None
get_none xs ys i e h = ap (λ z. slice_get z i) (sym e) ∙ slice_get_past ys i h
