-- Sentences on the way to clauses: typed, closed and judged.
use Rattle.std.proofs.Common.{◌≡◌, ℕ, suc, ◌+◌, ◌-◌, ◌<◌, ◌≤◌, List, [], ◌∷◌, ◌++◌, length, map, take, drop, reverse, get_or, Result, Ok, Err, refl, sym, ap, subst, ◌∙◌, arith, append_assoc}
use Rattle.std.specs.Prelude.{false, Option, All, OnOk}
use Rattle.std.specs.Result.{IsErrAnd}
use Rattle.std.proofs.lemmas.List.{drop_more, drop_all, take_more, take_all, append-nil, get_or-map, reverse-append, take-append-drop}
use Rattle.std.proofs.lemmas.List.Elements.{All-nil, All-head, All-tail, All-cons, All-push}
use Rattle.lp_base.specs.declared.place.Spot.{Spot}
use Rattle.lp_calculus.specs.Types.{Ty}
use Rattle.lp_calculus.specs.Term.{Term, abs}
use Rattle.lp_calculus.specs.Typing.{Scheme}
use Rattle.lp_standard.specs.Connectives.{pi_of}
use Rattle.lp_syntax.specs.declared.text.RawTerm.{RawTerm}
use Rattle.lp_syntax.specs.declared.text.Sentence.{Sentence}
use Rattle.lp_syntax.specs.declared.text.Sentence.TheVariants.{Says}
use Rattle.lp_term.specs.Nodes.{Nodes, Extends, tree, type_tree}
use Rattle.lp_term.specs.declared.node.TypeId.{TypeId}
use Rattle.lp_model.specs.Flat.{all_of}
use Rattle.lp_model.specs.declared.program.ClauseFormula.{ClauseFormula}
use Rattle.lp_model.specs.declared.program.Typed.{Typed}
use Rattle.lp_sig.specs.declared.signature.Signature.{Signature}
use Rattle.lp_infer.specs.Numbering.{AreNumbered, typing_variables, typing_of}
use Rattle.lp_infer.specs.Refusals.{Stands}
use Rattle.lp_infer.specs.Texts.{IsPrincipalTyping}
use Rattle.lp_module.specs.Clauses.{IsFormed, IsTypedAs, HasTyping, HasForm, IsClause, AreClauses}
use Rattle.lp_module.specs.Refusals.{IsTypingFault, IsFormFault, IsUntyped, IsUnformed}
use Rattle.lp_module.specs.Schemes.{declared_schemes}
use Rattle.lp_module.specs.Sentences.{said, AreWithin}
use Rattle.lp_module.specs.declared.fault.ModuleFault.{ModuleFault}
use Rattle.lp_module.specs.declared.sentences.TypedSentence.{TypedSentence}
use Rattle.lp_module.specs.inner.Typed.{IsSentence, AreSentences, AreTypedBefore, IsClosed, AreClosed, IsFormedIn, IsFirstUnformed, AreStanding}

-- a bank that grows keeps what a typed formula is
module _ (b c : Nodes) (e : Extends b c) where
  types_same : (vs : List (Spot × TypeId)) → All (λ v. v.1.0 < length b.types) vs → map (λ v. type_tree c v.1.0) vs ≡ map (λ v. type_tree b v.1.0) vs
  types_same [] a = refl
  types_same (v ∷ vs) a = λ i. e.same_types v.1.0 (All-head (λ v. v.1.0 < length b.types) v vs a) i ∷ types_same vs (All-tail (λ v. v.1.0 < length b.types) v vs a) i

  pub typing_same : (t : Typed) → Stands b t → typing_of c t ≡ typing_of b t
  typing_same t s = λ i. record { free = reverse (types_same t.vars.items s.types i); formula = e.same_terms t.formula.0 s.formula i }

  pub stands_later : (t : Typed) → Stands b t → Stands c t
  stands_later t s = record {
    formula = omega (arith, s.formula, e.more_terms);
    types = λ i d h. let q = s.types i d h in omega (arith, q, e.more_types);
  }

  pub sentence_later : (names : Signature) (text : List ℕ) (raw : RawTerm) (s : TypedSentence) → IsSentence names text raw b s → IsSentence names text raw c s
  sentence_later names text raw s i =
      let same = typing_same s.typed i.stands in
      record {
        first = i.first;
        few = i.few;
        stands = stands_later s.typed i.stands;
        typed = record {
          principal = subst (IsPrincipalTyping names text raw (map (λ v. v.0) s.typed.vars.items)) (sym same) i.typed.principal;
          numbered = subst (λ T. AreNumbered 0 (typing_variables T) s.typed.type_vars) (sym same) i.typed.numbered;
        };
      }

  pub sentences_later : (names : Signature) (text : List ℕ) (raws : List RawTerm) (ss : List TypedSentence) → AreSentences names text b raws ss → AreSentences names text c raws ss
  sentences_later names text [] [] a = a
  sentences_later names text [] (s ∷ ss) a = absurd a
  sentences_later names text (raw ∷ raws) [] a = absurd a
  sentences_later names text (raw ∷ raws) (s ∷ ss) a = (sentence_later names text raw s a.0, sentences_later names text raws ss a.1)

  pub before_later : (names : Signature) (text : List ℕ) (lines rest : List Sentence) (ss : List TypedSentence) → AreTypedBefore names text lines rest b ss → AreTypedBefore names text lines rest c ss
  before_later names text lines rest ss t = record { front = t.front; whole = t.whole; typed = sentences_later names text t.front ss t.typed }

  closed_one_later : (t : Typed) (k : ClauseFormula) → IsClosed b t k → IsClosed c t k
  closed_one_later t k i = record {
    stands = stands_later t i.stands;
    within = omega (arith, i.within, e.more_terms);
    formula = e.same_terms k.formula.0 i.within ∙ i.formula ∙ ap (λ T. all_of T.free T.formula) (sym (typing_same t i.stands));
    type_vars = i.type_vars;
  }

  pub closed_later : (ss : List TypedSentence) (ks : List ClauseFormula) → AreClosed b ss ks → AreClosed c ss ks
  closed_later [] [] a = a
  closed_later [] (k ∷ ks) a = absurd a
  closed_later (s ∷ ss) [] a = absurd a
  closed_later (s ∷ ss) (k ∷ ks) a = (closed_one_later s.typed k a.0, closed_later ss ks a.1)

-- one more sentence
sentences_push : (names : Signature) (text : List ℕ) (b : Nodes) (raws : List RawTerm) (ss : List TypedSentence) (raw : RawTerm) (s : TypedSentence) → AreSentences names text b raws ss → IsSentence names text raw b s → AreSentences names text b (raws ++ raw ∷ []) (ss ++ s ∷ [])
sentences_push names text b [] [] raw s a i = (i, tt)
sentences_push names text b [] (x ∷ xs) raw s a i = absurd a
sentences_push names text b (r ∷ rs) [] raw s a i = absurd a
sentences_push names text b (r ∷ rs) (x ∷ xs) raw s a i = (a.0, sentences_push names text b rs xs raw s a.1 i)

has_typings : (names : Signature) (text : List ℕ) (b : Nodes) (raws : List RawTerm) (ss : List TypedSentence) → AreSentences names text b raws ss → All (HasTyping names text) raws
has_typings names text b [] ss a = All-nil (HasTyping names text)
has_typings names text b (raw ∷ raws) [] a = absurd a
has_typings names text b (raw ∷ raws) (s ∷ ss) a = All-cons (HasTyping names text) raw raws (typing_of b s.typed, s.typed.type_vars, typed_as names text b raw s a.0) (has_typings names text b raws ss a.1)
  where
    typed_as : (names : Signature) (text : List ℕ) (b : Nodes) (raw : RawTerm) (s : TypedSentence) → IsSentence names text raw b s → IsTypedAs names text raw (typing_of b s.typed) s.typed.type_vars
    typed_as names text b raw s i = record { few = i.few; places = map (λ v. v.0) s.typed.vars.items; principal = i.typed.principal; numbered = i.typed.numbered }

-- line by line
module _ (names : Signature) (text : List ℕ) (lines : List Sentence) (b : Nodes) (ss : List TypedSentence) where
  pub none_before : ss ≡ [] → AreTypedBefore names text lines lines b ss
  none_before e = record { front = []; whole = refl; typed = subst (AreSentences names text b []) (sym e) tt }

  module _ (i : ℕ) (l : Sentence) (h : i < length lines) (at : l ≡ get_or lines i l) where
    from_here : said (drop i lines) ≡ said (l ∷ drop (i + 1) lines)
    from_here = ap said (drop_more lines i l h ∙ ap (λ x. x ∷ drop (i + 1) lines) (sym at))

    pub declared_more : said (l ∷ drop (i + 1) lines) ≡ said (drop (i + 1) lines) → AreTypedBefore names text lines (drop i lines) b ss → AreTypedBefore names text lines (drop (i + 1) lines) b ss
    declared_more none t = record { front = t.front; whole = t.whole ∙ ap (λ r. t.front ++ r) (from_here ∙ none); typed = t.typed }

    said_here : (raw : RawTerm) → l ≡ Says raw → said (drop i lines) ≡ raw ∷ said (drop (i + 1) lines)
    said_here raw is = from_here ∙ ap (λ x. said (x ∷ drop (i + 1) lines)) is

    pub said_more : (raw : RawTerm) (s : TypedSentence) (more : List TypedSentence) → l ≡ Says raw → IsSentence names text raw b s → more ≡ ss ++ s ∷ [] → AreTypedBefore names text lines (drop i lines) b ss → AreTypedBefore names text lines (drop (i + 1) lines) b more
    said_more raw s more is sentence pushed t = record {
      front = t.front ++ raw ∷ [];
      whole = t.whole ∙ ap (λ r. t.front ++ r) (said_here raw is) ∙ sym (append_assoc t.front (raw ∷ []) (said (drop (i + 1) lines)));
      typed = subst (AreSentences names text b (t.front ++ raw ∷ [])) (sym pushed) (sentences_push names text b t.front ss raw s t.typed sentence);
    }

    pub untyped_here : (raw : RawTerm) (e : ModuleFault) → l ≡ Says raw → IsTypingFault names text raw e → AreTypedBefore names text lines (drop i lines) b ss → IsUntyped names text lines e
    untyped_here raw e is f t = (t.front, raw, said (drop (i + 1) lines), t.whole ∙ ap (λ r. t.front ++ r) (said_here raw is), has_typings names text b t.front ss t.typed, f)

  pub all_typed : (i : ℕ) → length lines ≤ i → AreTypedBefore names text lines (drop i lines) b ss → AreSentences names text b (said lines) ss
  all_typed i h t = subst (λ r. AreSentences names text b r ss) (sym (t.whole ∙ ap (λ l. t.front ++ said l) (drop_all i lines h) ∙ append-nil t.front)) t.typed

pub standing : (names : Signature) (text : List ℕ) (b : Nodes) (raws : List RawTerm) (ss : List TypedSentence) → AreSentences names text b raws ss → AreStanding b ss
standing names text b [] [] a = All-nil (λ s. Stands b s.typed)
standing names text b [] (s ∷ ss) a = absurd a
standing names text b (raw ∷ raws) [] a = absurd a
standing names text b (raw ∷ raws) (s ∷ ss) a = All-cons (λ s. Stands b s.typed) s ss a.0.stands (standing names text b raws ss a.1)

-- one more `pi`
module _ (Ts : List Ty) (n : ℕ) (many : n ≡ length Ts) where
  pub pi_more : (k : ℕ) (A : Ty) (t u w : Term) → k < n → A ≡ get_or Ts (n - 1 - k) A → u ≡ pi_of A (abs t) → all_of (reverse (take (n - k) Ts)) t ≡ w → all_of (reverse (take (n - (k + 1)) Ts)) u ≡ w
  pi_more k A t u w h at is e =
      let m : n - k ≡ (n - 1 - k) + 1 = omega (arith, h) in
      let l : n - 1 - k < length Ts = omega (arith, h, many) in
      let z : n - (k + 1) ≡ n - 1 - k = omega (arith, h) in
      let r : reverse (take (n - k) Ts) ≡ A ∷ reverse (take (n - 1 - k) Ts) = ap (λ j. reverse (take j Ts)) m ∙ ap reverse (take_more Ts (n - 1 - k) A l ∙ ap (λ x. take (n - 1 - k) Ts ++ x ∷ []) (sym at)) ∙ reverse-append (take (n - 1 - k) Ts) (A ∷ []) in
      ap (λ j. all_of (reverse (take j Ts)) u) z ∙ ap (all_of (reverse (take (n - 1 - k) Ts))) is ∙ ap (λ l. all_of l t) (sym r) ∙ e

  pub pi_none : (k : ℕ) (t w : Term) → n ≤ k → all_of (reverse (take (n - k) Ts)) t ≡ w → t ≡ w
  pi_none k t w h e = let z : n - k ≡ 0 = omega (arith, h) in ap (λ j. all_of (reverse (take j Ts)) t) (sym z) ∙ e

  pub pi_all : (t : Term) → all_of (reverse (take (n - 0) Ts)) t ≡ all_of (reverse Ts) t
  pi_all t = ap (λ l. all_of (reverse l) t) (take_all (n - 0) Ts (omega (arith, many)))

-- one more clause
closed_push : (b : Nodes) (ss : List TypedSentence) (ks : List ClauseFormula) (s : TypedSentence) (k : ClauseFormula) → AreClosed b ss ks → IsClosed b s.typed k → AreClosed b (ss ++ s ∷ []) (ks ++ k ∷ [])
closed_push b [] [] s k a i = (i, tt)
closed_push b [] (x ∷ xs) s k a i = absurd a
closed_push b (x ∷ xs) [] s k a i = absurd a
closed_push b (x ∷ xs) (y ∷ ys) s k a i = (a.0, closed_push b xs ys s k a.1 i)

pub closed_more : (b c : Nodes) (ss : List TypedSentence) (i : ℕ) (s : TypedSentence) (ks more : List ClauseFormula) (k : ClauseFormula) → i < length ss → s ≡ get_or ss i s → more ≡ ks ++ k ∷ [] → Extends b c → AreClosed b (take i ss) ks → IsClosed c s.typed k → AreClosed c (take (i + 1) ss) more
closed_more b c ss i s ks more k h at pushed e a is =
    subst (AreClosed c (take (i + 1) ss)) (sym pushed)
    (subst (λ l. AreClosed c l (ks ++ k ∷ [])) (sym (take_more ss i s h ∙ ap (λ x. take i ss ++ x ∷ []) (sym at))) (closed_push c (take i ss) ks s k (closed_later b c e (take i ss) ks a) is))

pub closed_count : (b : Nodes) (ss : List TypedSentence) (ks : List ClauseFormula) → AreClosed b ss ks → length ks ≡ length ss
closed_count b [] [] a = refl
closed_count b [] (k ∷ ks) a = absurd a
closed_count b (s ∷ ss) [] a = absurd a
closed_count b (s ∷ ss) (k ∷ ks) a = ap suc (closed_count b ss ks a.1)

pub closed_within : (b : Nodes) (ss : List TypedSentence) (ks : List ClauseFormula) → AreClosed b ss ks → AreWithin b ks
closed_within b ss [] a = All-nil (λ k. k.formula.0 < length b.terms)
closed_within b [] (k ∷ ks) a = absurd a
closed_within b (s ∷ ss) (k ∷ ks) a = All-cons (λ k. k.formula.0 < length b.terms) k ks a.0.within (closed_within b ss ks a.1)

pub sentences_count : (names : Signature) (text : List ℕ) (b : Nodes) (raws : List RawTerm) (ss : List TypedSentence) → AreSentences names text b raws ss → length ss ≡ length raws
sentences_count names text b [] [] a = refl
sentences_count names text b [] (s ∷ ss) a = absurd a
sentences_count names text b (raw ∷ raws) [] a = absurd a
sentences_count names text b (raw ∷ raws) (s ∷ ss) a = ap suc (sentences_count names text b raws ss a.1)

-- a sentence that is typed, closed and judged is a clause
is_clause : (names : Signature) (text : List ℕ) (b : Nodes) (raw : RawTerm) (s : TypedSentence) (k : ClauseFormula) → IsSentence names text raw b s → IsClosed b s.typed k → IsFormedIn (declared_schemes names) b s → IsClause names text raw b k
is_clause names text b raw s k i c f =
    let n : k.type_vars ≡ s.typed.type_vars = omega (arith, c.type_vars, f.within.type_variables) in
    record {
      typing = typing_of b s.typed;
      typed = record { few = i.few; places = map (λ v. v.0) s.typed.vars.items; principal = i.typed.principal; numbered = subst (AreNumbered 0 (typing_variables (typing_of b s.typed))) (sym n) i.typed.numbered };
      closed = c.formula;
      formed = subst (λ m. IsFormed (declared_schemes names) false m (tree b s.typed.formula.0)) (sym n) f;
    }

pub are_clauses : (names : Signature) (text : List ℕ) (b : Nodes) (raws : List RawTerm) (ss : List TypedSentence) (ks : List ClauseFormula) → AreSentences names text b raws ss → AreClosed b ss ks → All (IsFormedIn (declared_schemes names) b) ss → AreClauses names text b raws ks
are_clauses names text b [] [] [] a c f = tt
are_clauses names text b [] [] (k ∷ ks) a c f = absurd c
are_clauses names text b [] (s ∷ ss) ks a c f = absurd a
are_clauses names text b (raw ∷ raws) [] ks a c f = absurd a
are_clauses names text b (raw ∷ raws) (s ∷ ss) [] a c f = absurd c
are_clauses names text b (raw ∷ raws) (s ∷ ss) (k ∷ ks) a c f =
    (is_clause names text b raw s k a.0 c.0 (All-head (IsFormedIn (declared_schemes names) b) s ss f), are_clauses names text b raws ss ks a.1 c.1 (All-tail (IsFormedIn (declared_schemes names) b) s ss f))

-- the sentence at fault
abbrev Split : Signature → List ℕ → Nodes → List RawTerm → List TypedSentence → TypedSentence → List TypedSentence → Type 0
Split names text b raws before s behind =
    (front : List RawTerm) × (raw : RawTerm) × (back : List RawTerm) × (raws ≡ front ++ raw ∷ back) × AreSentences names text b front before × IsSentence names text raw b s

split : (names : Signature) (text : List ℕ) (b : Nodes) (raws : List RawTerm) (before : List TypedSentence) (s : TypedSentence) (behind : List TypedSentence) → AreSentences names text b raws (before ++ s ∷ behind) → Split names text b raws before s behind
split names text b [] [] s behind a = absurd a
split names text b [] (x ∷ xs) s behind a = absurd a
split names text b (raw ∷ raws) [] s behind a = ([], raw, raws, refl, tt, a.0)
split names text b (raw ∷ raws) (x ∷ xs) s behind a =
    let (front, r, back, is, before, at) = split names text b raws xs s behind a.1 in
    (raw ∷ front, r, back, ap (λ l. raw ∷ l) is, (a.0, before), at)

have_form : (names : Signature) (text : List ℕ) (b : Nodes) (raws : List RawTerm) (ss : List TypedSentence) → AreSentences names text b raws ss → All (IsFormedIn (declared_schemes names) b) ss → All (HasForm names text) raws
have_form names text b [] ss a f = All-nil (HasForm names text)
have_form names text b (raw ∷ raws) [] a f = absurd a
have_form names text b (raw ∷ raws) (s ∷ ss) a f =
    All-cons (HasForm names text) raw raws (typing_of b s.typed, s.typed.type_vars, record { few = a.0.few; places = map (λ v. v.0) s.typed.vars.items; principal = a.0.typed.principal; numbered = a.0.typed.numbered }, All-head (IsFormedIn (declared_schemes names) b) s ss f)
    (have_form names text b raws ss a.1 (All-tail (IsFormedIn (declared_schemes names) b) s ss f))

pub unformed : (names : Signature) (text : List ℕ) (b : Nodes) (lines : List Sentence) (ss : List TypedSentence) (e : ModuleFault) → AreSentences names text b (said lines) ss → IsFirstUnformed (declared_schemes names) b ss e → IsUnformed names text lines e
unformed names text b lines ss e a (before, s, behind, whole, formed, f) =
    let (front, raw, back, is, fine, at) = split names text b (said lines) before s behind (subst (AreSentences names text b (said lines)) whole a) in (
      has_typings names text b (said lines) ss a,
      (
        front,
        raw,
        back,
        is,
        have_form names text b front before fine formed,
        (typing_of b s.typed, s.typed.type_vars, record { few = at.few; places = map (λ v. v.0) s.typed.vars.items; principal = at.typed.principal; numbered = at.typed.numbered }, subst (λ p. IsFormFault (declared_schemes names) false s.typed.type_vars (tree b s.typed.formula.0) p e) at.first f),
      ),
    )

-- one more of the first elements
pub all_more : {A : Type 0} (P : A → Type 0) (xs : List A) (i : ℕ) (x : A) → i < length xs → x ≡ get_or xs i x → All P (take i xs) → P x → All P (take (i + 1) xs)
all_more P xs i x h at a p = subst (All P) (sym (take_more xs i x h ∙ ap (λ y. take i xs ++ y ∷ []) (sym at))) (All-push P (take i xs) x a p)

-- the sentence that is judged is the first without the form
pub first_unformed : (d : ℕ → Option Scheme) (b : Nodes) (ss : List TypedSentence) (i : ℕ) (s : TypedSentence) (e : ModuleFault) → i < length ss → s ≡
    get_or ss i s → All (IsFormedIn d b) (take i ss) → IsFormFault d false s.typed.type_vars (tree b s.typed.formula.0) s.first e → IsFirstUnformed d
    b ss e
first_unformed d b ss i s e h at a f = (take i ss, s, drop (i + 1) ss, whole, a, f)
  where
    whole : ss ≡ take i ss ++ s ∷ drop (i + 1) ss
    whole = sym (take-append-drop i ss) ∙ ap (λ l. take i ss ++ l) (drop_more ss i s h ∙ ap (λ x. x ∷ drop (i + 1) ss) (sym at))

-- a refusal gives nothing
pub none_given : {T E : Type 0} (r : Result T E) (P : Type 0) (Q : E → Type 0) → IsErrAnd r Q → OnOk r P
none_given (Ok x) P Q e = absurd e
none_given (Err y) P Q e = tt

-- the type of the variable that is closed next
pub type_next : (b c : Nodes) (t : Typed) → Extends b c → Stands b t → (j : ℕ) (v : Spot × TypeId) → j < length t.vars.items → v ≡ get_or t.vars.items
    j v → (v.1.0 < length b.types) × (type_tree c v.1.0 ≡ type_tree b v.1.0) × (type_tree b v.1.0 ≡ get_or (map (λ v. type_tree b v.1.0) t.vars.items)
    j (type_tree b v.1.0))
type_next b c t e s j v h at =
    let q : v.1.0 < length b.types = subst (λ x. x.1.0 < length b.types) (sym at) (s.types j v h) in (
      q,
      e.same_types v.1.0 q,
      sym (get_or-map (λ v. type_tree b v.1.0) t.vars.items j v (type_tree b v.1.0) h ∙ ap (λ v. type_tree b v.1.0) (sym at)),
    )
