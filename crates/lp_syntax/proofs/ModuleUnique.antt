-- A text is a module in one way, and has one set of operators behind it; where it is one, the code gives it.
use Rattle.std.proofs.Common.{◌≡◌, ℕ, suc, ◌+◌, ◌<◌, ◌≤◌, ◌⊎◌, inl, inr, max, List, [], ◌∷◌, ◌++◌, length, map, refl, sym, ap, ◌∙◌, subst, arith, length-append}
use Rattle.std.proofs.lemmas.List.Elements.{All-pop}
use Rattle.std.specs.Prelude.{All, Some, Result, Ok, Err, IfOk, IfErr}
use Rattle.std.proofs.lemmas.List.{same_from_push}
use Rattle.lp_base.specs.declared.place.Spot.{Spot}
use Rattle.lp_base.specs.declared.limit.Limit.TheVariants.{Nesting}
use Rattle.lp_standard.specs.declared.fixity.Fixity.{Fixity}
use Rattle.lp_fixity.specs.declared.fault.FixFault.{FixFault}
use Rattle.lp_fixity.specs.declared.fault.FixFault.TheVariants as fix
use Rattle.lp_fixity.specs.Table.{with_entry}
use Rattle.lp_syntax.specs.declared.class.Class.TheVariants as class
use Rattle.lp_syntax.specs.declared.fault.SyntaxFault.{SyntaxFault}
use Rattle.lp_syntax.specs.declared.fault.SyntaxFault.TheVariants as fault
use Rattle.lp_syntax.specs.declared.text.ModuleText.{ModuleText}
use Rattle.lp_syntax.specs.Symbols.{Tree}
use Rattle.lp_syntax.specs.Tokens.{Lexeme, Operators, class_at, bytes_at}
use Rattle.lp_syntax.specs.Terms.{TermAt}
use Rattle.lp_syntax.specs.Depth.{HasDepth, leaf, cons, nil, applied, abstracted, annotated, as_head, type_depth, TermFits, TermTooDeep}
use Rattle.lp_syntax.specs.Declarations.{Line, KindLine, LocalKindLine, ConstantLine, LocalLine, AbbreviationLine, AccumulateLine, AccumSigLine, FixityLine}
use Rattle.lp_syntax.specs.Modules.{Clause, Declared, Said, IsSentence, declares, says, DeclaresOne, DeclaresAll, none_declared, one_declared, Follows, AreSentences, no_sentence, one_sentence, IsModule, ClauseFits, ClauseTooDeep, AreSaid, IsModuleText, IsFixFault, OperatorFault, IsBadOperator, IsSentenceRefusal, BehindSentences, IsModuleRefusal, IsGivenModule}
use Rattle.lp_syntax.proofs.Tokens.{past_end}
use Rattle.lp_syntax.proofs.TypeTrees.{snoc_some}
use Rattle.lp_syntax.proofs.TypeFaults.{Compared, less, same, more, compared}
use Rattle.lp_syntax.proofs.TypeUnique.{one_annotation}
use Rattle.lp_syntax.proofs.TermFaults.{one_term}
use Rattle.lp_syntax.proofs.QueryFaults.{over_dot}
use Rattle.lp_syntax.proofs.SignatureFaults.{line_runs_of, line_longer}
use Rattle.lp_syntax.proofs.LineUnique.{same_line}
use Rattle.lp_syntax.proofs.ModuleFaults.{up_from, no_keyword_term}

-- a term has one depth
pub one_depth : (ls : List Lexeme) (t : Tree) (m n : ℕ) → HasDepth ls t m → HasDepth ls t n → m ≡ n
one_depth ls t m n (leaf s) (leaf _) = refl
one_depth ls t m n (cons s) (cons _) = refl
one_depth ls t m n (nil s) (nil _) = refl
one_depth ls t m n (applied f x _ a b p q e) (applied _ _ _ c d r s g) = let u = one_depth ls f a c p r in let v = one_depth ls x b d q s in e ∙ (λ i. max (as_head f (u i)) (v i + 1)) ∙ sym g
one_depth ls t m n (abstracted v b _ a p e) (abstracted _ _ _ c q g) = e ∙ ap (λ k. k + 1) (one_depth ls b a c p q) ∙ sym g
one_depth ls t m n (annotated v c k b y _ a p h d e) (annotated _ _ l _ z _ f q i j g) =
    let u = one_depth ls b a f p q in
    let w = one_annotation ls (suc c) k l y z h d i j in
    e ∙ (λ x. max (u x) (type_depth (w.1 x)) + 1) ∙ sym g

pub not_both : (ls : List Lexeme) (t : Tree) → TermFits ls t → TermTooDeep ls t → ⊥
not_both ls t f d = let e = one_depth ls t f.0 d.0 f.1 d.1 in let u = f.2 in let v = d.2 in omega (arith, e, u, v)

clause_not_both : (ls : List Lexeme) (s : Clause) → ClauseFits ls s → ClauseTooDeep ls s → ⊥
clause_not_both ls (Declared l) f d = omega (arith, f, d)
clause_not_both ls (Said t) f d = not_both ls t f d

-- a sentence
same_end : (ops : Operators) (ls : List Lexeme) (i e k : ℕ) (t u : Tree) → TermAt ops ls i e t → class_at ls e ≡ class.Dot → TermAt ops ls i k u → class_at ls k ≡ class.Dot → (e ≡ k) × (t ≡ u)
same_end ops ls i e k t u d c f g = go (compared e k)
  where
    go : Compared e k → (e ≡ k) × (t ≡ u)
    go (less l) = absurd (over_dot ops ls i e t d c k u l f)
    go (same p) = (p, one_term ops ls i k t u (subst (λ m. TermAt ops ls i m t) p d) f)
    go (more l) = absurd (over_dot ops ls i k u f g e t l d)

record SameSentence (j k : ℕ) (s t : Clause) : Type 0 where
  pub ends : j ≡ k
  pub clause : s ≡ t

same_sentence : (ops : Operators) (ls : List Lexeme) (i j k : ℕ) (s t : Clause) → IsSentence ops ls i j s → IsSentence ops ls i k t → SameSentence j k s t
same_sentence ops ls i j k s t (declares l h) (declares m g) = let z = same_line ls i j k l m h g in record { ends = z.ends; clause = ap Declared z.line }
same_sentence ops ls i j k s t (declares l h) (says e u d c p) = absurd (no_keyword_term ops ls i e u h.word h.there d)
same_sentence ops ls i j k s t (says e u d c p) (declares l h) = absurd (no_keyword_term ops ls i e u h.word h.there d)
same_sentence ops ls i j k s t (says e u d c p) (says f v g b q) = let z = same_end ops ls i e f u v d c g b in record { ends = p ∙ ap (λ n. n + 1) z.0 ∙ sym q; clause = ap Said z.1 }

sentence_longer : (ops : Operators) (ls : List Lexeme) (i j : ℕ) (s : Clause) → IsSentence ops ls i j s → i < j
sentence_longer ops ls i j s (declares l h) = line_longer ls i j (line_runs_of ls i j l h)
sentence_longer ops ls i j s (says e t d c p) = let u = up_from ops ls i e t d in omega (arith, u, p)

none_at_end : (ops : Operators) (ls : List Lexeme) (i j : ℕ) (s : Clause) → length ls ≤ i → IsSentence ops ls i j s → ⊥
none_at_end ops ls i j s l (declares m h) = let z = sym h.there ∙ past_end ls i l in cc
none_at_end ops ls i j s l (says e t d c p) = let u = up_from ops ls i e t d in let z = sym c ∙ past_end ls e (omega (arith, u, l)) in cc

-- the operators behind it
declares_same : (e : Fixity × ℕ) (ops : Operators) (ws : List (List ℕ)) (a b : Operators) → DeclaresAll e ops ws a → DeclaresAll e ops ws b → a ≡ b
declares_same e ops ws a b (none_declared _ f) (none_declared _ g) = λ i name. (f name ∙ sym (g name)) i
declares_same e ops ws a b (none_declared _ f) (one_declared us _ u now _ d o p) = absurd (snoc_some us u p)
declares_same e ops ws a b (one_declared us _ u now _ d o p) (none_declared _ f) = absurd (snoc_some us u p)
declares_same e ops ws a b (one_declared us _ u now _ d o p) (one_declared vs _ v then _ g q r) =
    let z = same_from_push us vs u v (sym p ∙ r) in
    let n = declares_same e ops us now then d (subst (λ x. DeclaresAll e ops x then) (sym z.0) g) in
    λ i name. (o.is name ∙ (λ j. with_entry (z.1 j, e) (n j) name) ∙ sym (q.is name)) i

follows_same : (ls : List Lexeme) (s : Clause) (now a b : Operators) → Follows ls s now a → Follows ls s now b → a ≡ b
follows_same ls (Said t) now a b f g = λ i name. (f name ∙ sym (g name)) i
follows_same ls (Declared (KindLine ns n)) now a b f g = λ i name. (f name ∙ sym (g name)) i
follows_same ls (Declared (LocalKindLine ns n)) now a b f g = λ i name. (f name ∙ sym (g name)) i
follows_same ls (Declared (ConstantLine ns t)) now a b f g = λ i name. (f name ∙ sym (g name)) i
follows_same ls (Declared (LocalLine ns t)) now a b f g = λ i name. (f name ∙ sym (g name)) i
follows_same ls (Declared (AbbreviationLine n ns t)) now a b f g = λ i name. (f name ∙ sym (g name)) i
follows_same ls (Declared (AccumulateLine ns)) now a b f g = λ i name. (f name ∙ sym (g name)) i
follows_same ls (Declared (AccumSigLine ns)) now a b f g = λ i name. (f name ∙ sym (g name)) i
follows_same ls (Declared (FixityLine ns x n)) now a b f g = declares_same (x, n) now (map (bytes_at ls) ns) a b f g

-- as many sentences from one token on
record Met (j k : ℕ) (ss ts : List Clause) (a b : Operators) : Type 0 where
  pub ends : j ≡ k
  pub all : ss ≡ ts
  pub after : a ≡ b

more_than_none : (ss : List Clause) (s : Clause) (ts : List Clause) → 0 ≡ length ts → ts ≡ ss ++ s ∷ [] → ⊥
more_than_none ss s ts l e = let u = length-append ss (s ∷ []) in let v = ap length e in omega (arith, l, u, v)

one_less : (ss us : List Clause) (s u : Clause) (ts vs : List Clause) → length ts ≡ length vs → ts ≡ ss ++ s ∷ [] → vs ≡ us ++ u ∷ [] → length ss ≡ length us
one_less ss us s u ts vs l e f = let a = length-append ss (s ∷ []) in let b = length-append us (u ∷ []) in let c = ap length e in let d = ap length f in omega (arith, l, a, b, c, d)

meet : (ls : List Lexeme) (ops : Operators) (i : ℕ) (a b : Operators) (j k : ℕ) (ss ts : List Clause) → AreSentences ls ops i a j ss → AreSentences ls ops i b k ts → length ss ≡ length ts → Met j k ss ts a b
meet ls ops i a b j k ss ts no_sentence no_sentence l = record { ends = refl; all = refl; after = refl }
meet ls ops i a b j k ss ts no_sentence (one_sentence now _ m _ us _ u d h f e) l = absurd (more_than_none us u ts l e)
meet ls ops i a b j k ss ts (one_sentence now _ m _ us _ u d h f e) no_sentence l = absurd (more_than_none us u ss (sym l) e)
meet ls ops i a b j k ss ts (one_sentence now _ m _ us _ u d h f e) (one_sentence then _ n _ vs _ v d' h' f' e') l =
    let z = meet ls ops i now then m n us vs d d' (one_less us vs u v ss ts l e e') in
    let w = same_sentence now ls m j k u v h (subst (λ o. IsSentence o ls m k v) (sym z.after) (subst (λ x. IsSentence then ls x k v) (sym z.ends) h')) in
    record {
      ends = w.ends;
      all = e ∙ (λ x. z.all x ++ w.clause x ∷ []) ∙ sym e';
      after = follows_same ls u now a b f (subst (λ o. Follows ls u o b) (sym z.after) (subst (λ x. Follows ls x then b) (sym w.clause) f'));
    }

-- the sentence with a number, and those before it
record Front (ls : List Lexeme) (ops : Operators) (i n : ℕ) (ts : List Clause) : Type 0 where
  pub now : Operators
  pub at : ℕ
  pub before : List Clause
  pub sentences : AreSentences ls ops i now at before
  pub long : length before ≡ n
  pub end : ℕ
  pub clause : Clause
  pub is : IsSentence now ls at end clause
  pub after : Operators
  pub follows : Follows ls clause now after
  pub fits : All (ClauseFits ls) ts → ClauseFits ls clause

front : (ls : List Lexeme) (ops : Operators) (i : ℕ) (b : Operators) (k : ℕ) (ts : List Clause) → AreSentences ls ops i b k ts → (n : ℕ) → n < length ts → Front ls ops i n ts
front ls ops i b k ts no_sentence n l = absurd (omega (arith, l))
front ls ops i b k ts (one_sentence now _ m _ us _ u d h f e) n l = go (front ls ops i now m us d n) (compared n (length us))
  where
    go : (n < length us → Front ls ops i n us) → Compared n (length us) → Front ls ops i n ts
    go on (less x) =
        let r = on x in
        record { now = r.now; at = r.at; before = r.before; sentences = r.sentences; long = r.long; end = r.end; clause = r.clause; is = r.is; after = r.after; follows = r.follows; fits = λ a. r.fits (All-pop (ClauseFits ls) ts us (Some u) e a).0 }
    go on (same x) = record { now = now; at = m; before = us; sentences = d; long = sym x; end = k; clause = u; is = h; after = b; follows = f; fits = λ a. (All-pop (ClauseFits ls) ts us (Some u) e a).1 }
    go on (more x) = let a = length-append us (u ∷ []) in let c = ap length e in absurd (omega (arith, l, x, a, c))

-- no sentence stands behind all
pub no_further : (ls : List Lexeme) (ops : Operators) (i n : ℕ) (a b : Operators) (k : ℕ) (ss ts : List Clause) → AreSentences ls ops i a (length ls) ss → AreSentences ls ops i b k ts → length ss < length ts → ⊥
no_further ls ops i n a b k ss ts d e l =
    let f = front ls ops i b k ts e (length ss) l in
    let m = meet ls ops i a f.now (length ls) f.at ss f.before d f.sentences (sym f.long) in
    let z = m.ends in
    none_at_end f.now ls f.at f.end f.clause (omega (arith, z)) f.is

pub one_module : (ops : Operators) (ls : List Lexeme) (ss ts : List Clause) (a b : Operators) → IsModule ops ls ss a → IsModule ops ls ts b → (ss ≡ ts) × (a ≡ b)
one_module ops ls ss ts a b p q = go (compared (length ss) (length ts))
  where
    go : Compared (length ss) (length ts) → (ss ≡ ts) × (a ≡ b)
    go (less l) = absurd (no_further ls ops 3 0 a b (length ls) ss ts p.sentences q.sentences l)
    go (same l) = let m = meet ls ops 3 a b (length ls) (length ls) ss ts p.sentences q.sentences l in (m.all, m.after)
    go (more l) = absurd (no_further ls ops 3 0 b a (length ls) ts ss q.sentences p.sentences l)

-- a fixity that cannot be declared is not declared
split_snoc : (ws fore rest : List (List ℕ)) (w v : List ℕ) → ws ++ w ∷ [] ≡ fore ++ v ∷ rest → ((ws ≡ fore) × (w ≡ v)) ⊎ ((more : List (List ℕ)) × (ws ≡ fore ++ v ∷ more))
split_snoc [] [] rest w v e = inl (refl, head_same e)
  where
    head_same : {x y : List ℕ} {xs ys : List (List ℕ)} → ◌≡◌ {A = List (List ℕ)} (x ∷ xs) (y ∷ ys) → x ≡ y
    head_same e = cc
split_snoc [] (x ∷ fore) rest w v e = let a = ap length e in let b = length-append fore (v ∷ rest) in absurd (omega (arith, a, b))
split_snoc (y ∷ ws) [] rest w v e = inr (ws, ap (λ z. z ∷ ws) (head_same e))
  where
    head_same : {x y : List ℕ} {xs ys : List (List ℕ)} → ◌≡◌ {A = List (List ℕ)} (x ∷ xs) (y ∷ ys) → x ≡ y
    head_same e = cc
split_snoc (y ∷ ws) (x ∷ fore) rest w v e = go (split_snoc ws fore rest w v) (parts e)
  where
    parts : {x y : List ℕ} {xs ys : List (List ℕ)} → ◌≡◌ {A = List (List ℕ)} (x ∷ xs) (y ∷ ys) → (x ≡ y) × (xs ≡ ys)
    parts e = (cc, cc)

    by : y ≡ x → ((ws ≡ fore) × (w ≡ v)) ⊎ ((more : List (List ℕ)) × (ws ≡ fore ++ v ∷ more)) → ((y ∷ ws ≡ x ∷ fore) × (w ≡ v)) ⊎ ((more : List (List ℕ)) × (y ∷ ws ≡ x ∷ fore ++ v ∷ more))
    by p (inl z) = inl ((λ i. p i ∷ z.0 i), z.1)
    by p (inr z) = inr (z.0, λ i. p i ∷ z.1 i)

    go : (ws ++ w ∷ [] ≡ fore ++ v ∷ rest → ((ws ≡ fore) × (w ≡ v)) ⊎ ((more : List (List ℕ)) × (ws ≡ fore ++ v ∷ more))) → (y ≡ x) × (ws ++ w ∷ [] ≡ fore ++ v ∷ rest) → ((y ∷ ws ≡ x ∷ fore) × (w ≡ v)) ⊎ ((more : List (List ℕ)) × (y ∷ ws ≡ x ∷ fore ++ v ∷ more))
    go on p = by p.0 (on p.1)

record DeclaredAt (e : Fixity × ℕ) (ops : Operators) (fore : List (List ℕ)) (w : List ℕ) : Type 0 where
  pub now : Operators
  pub next : Operators
  pub before : DeclaresAll e ops fore now
  pub one : DeclaresOne w e now next

declared_at : (e : Fixity × ℕ) (ops : Operators) (vs : List (List ℕ)) (a : Operators) (fore rest : List (List ℕ)) (w : List ℕ) → DeclaresAll e ops vs a → vs ≡ fore ++ w ∷ rest → DeclaredAt e ops fore w
declared_at e ops vs a fore rest w (none_declared _ f) p = let x = ap length p in let y = length-append fore (w ∷ rest) in absurd (omega (arith, x, y))
declared_at e ops vs a fore rest w (one_declared us _ u now _ d o q) p = go (λ more z. declared_at e ops us now fore more w d z) (split_snoc us fore rest u w (sym q ∙ p))
  where
    go : ((more : List (List ℕ)) → us ≡ fore ++ w ∷ more → DeclaredAt e ops fore w) → ((us ≡ fore) × (u ≡ w)) ⊎ ((more : List (List ℕ)) × (us ≡ fore ++ w ∷ more)) → DeclaredAt e ops fore w
    go on (inl z) = record { now = now; next = a; before = subst (λ x. DeclaresAll e ops x now) z.0 d; one = subst (λ x. DeclaresOne x e now a) z.1 o }
    go on (inr z) = on z.0 z.1

map_split : (g : ℕ → List ℕ) (xs ys : List ℕ) (x : ℕ) → map g (xs ++ x ∷ ys) ≡ map g xs ++ g x ∷ map g ys
map_split g [] ys x = refl
map_split g (z ∷ xs) ys x = ap (λ l. g z ∷ l) (map_split g xs ys x)

no_cause : (ops next : Operators) (w : List ℕ) (e : Fixity × ℕ) (c : FixFault) → DeclaresOne w e ops next → IsFixFault ops w e c → ⊥
no_cause ops next w e (fix.TooHigh n) d h = let a = d.low in let b = h.0 in let c = h.1 in omega (arith, a, b, c)
no_cause ops next w e fix.Otherwise d h = d.free h.1
no_cause ops next w e fix.Memory d h = h

declared_well : (spot : ℕ → Spot) (ls : List Lexeme) (now after : Operators) (l : Line) (f : SyntaxFault) → OperatorFault spot ls now l f → Follows ls (Declared l) now after → ⊥
declared_well spot ls now after l f o h =
    let e : Fixity × ℕ = (o.fixity, o.number) in
    let d : DeclaresAll e now (map (bytes_at ls) (o.front ++ o.name ∷ o.rest)) after = subst (λ x. Follows ls (Declared x) now after) o.line_is h in
    let z = declared_at e now _ after (map (bytes_at ls) o.front) (map (bytes_at ls) o.rest) (bytes_at ls o.name) d (map_split (bytes_at ls) o.front o.rest o.name) in
    let s = declares_same e now (map (bytes_at ls) o.front) z.now o.now z.before o.before in
    no_cause o.now z.next (bytes_at ls o.name) e o.cause (subst (λ x. DeclaresOne (bytes_at ls o.name) e x z.next) s z.one) o.is_cause

-- a module is not refused but for want of memory or depth
refused_there : (spot : ℕ → Spot) (now : Operators) (ls : List Lexeme) (at : ℕ) (f : SyntaxFault) (end : ℕ) (s : Clause) (after : Operators) →
    IsSentence now ls at end s → Follows ls s now after → IsSentenceRefusal spot now ls at f ⊎ IsBadOperator spot now ls at f → (f ≡ fault.Memory) ⊎
    ((f ≡ fault.Limit Nesting) × ClauseTooDeep ls s)
refused_there spot now ls at f end s after h w (inl (inl m)) = inl m
refused_there spot now ls at f end s after h w (inl (inr (inl d))) = inr (d.0, subst (ClauseTooDeep ls) (same_sentence now ls at d.1.0 end d.1.1 s d.1.2 h).clause d.1.3)
refused_there spot now ls at f end s after h w (inl (inr (inr x))) = absurd (x.none end s h)
refused_there spot now ls at f end s after h w (inr b) = absurd (declared_well spot ls now after b.1 f b.3 (subst (λ c. Follows ls c now after) (same_sentence now ls at end b.0 s (Declared b.1) h (declares b.1 b.2)).clause w))

behind_given : (spot : ℕ → Spot) (ops : Operators) (ls : List Lexeme) (f : SyntaxFault) (ss : List Clause) (a : Operators) → IsModule ops ls ss a → BehindSentences spot ops ls f → (f ≡ fault.Memory) ⊎ ((f ≡ fault.Limit Nesting) × (All (ClauseFits ls) ss → ⊥))
behind_given spot ops ls f ss a k b = go (compared (length b.before) (length ss))
  where
    told : (x : Front ls ops 3 (length b.before) ss) → Met b.at x.at b.before x.before b.now x.now → (f ≡ fault.Memory) ⊎ ((f ≡ fault.Limit Nesting) × (All (ClauseFits ls) ss → ⊥))
    told x m = by (refused_there spot b.now ls b.at f x.end x.clause x.after (subst (λ o. IsSentence o ls b.at x.end x.clause) (sym m.after) (subst (λ n. IsSentence x.now ls n x.end x.clause) (sym m.ends) x.is)) (subst (λ o. Follows ls x.clause o x.after) (sym m.after) x.follows) b.refuses)
      where
        by : (f ≡ fault.Memory) ⊎ ((f ≡ fault.Limit Nesting) × ClauseTooDeep ls x.clause) → (f ≡ fault.Memory) ⊎ ((f ≡ fault.Limit Nesting) × (All (ClauseFits ls) ss → ⊥))
        by (inl e) = inl e
        by (inr e) = inr (e.0, λ all. clause_not_both ls x.clause (x.fits all) e.1)

    go : Compared (length b.before) (length ss) → (f ≡ fault.Memory) ⊎ ((f ≡ fault.Limit Nesting) × (All (ClauseFits ls) ss → ⊥))
    go (less l) = let x = front ls ops 3 a (length ls) ss k.sentences (length b.before) l in told x (meet ls ops 3 b.now x.now b.at x.at b.before x.before b.sentences x.sentences (sym x.long))
    go (same l) = let m = meet ls ops 3 b.now a b.at (length ls) b.before ss b.sentences k.sentences l in let e = m.ends in let t = b.there in absurd (omega (arith, e, t))
    go (more l) = absurd (no_further ls ops 3 0 a b.now b.at ss b.before k.sentences b.sentences l)

pub module_given : (spot : ℕ → Spot) (ops now : Operators) (ls : List Lexeme) (r : Result ModuleText SyntaxFault) → IfOk r (IsModuleText spot ops now ls) → IfErr r (IsModuleRefusal spot ops ls) → (ss : List Clause) (a : Operators) → IsModule ops ls ss a → IsGivenModule spot ls ss a now r
module_given spot ops now ls (Ok t) d e ss a k =
    let z = one_module ops ls d.read.before ss now a (record { header = d.header; sentences = d.read.sentences }) k in
    (subst (AreSaid spot ls t.lines.items) z.0 d.read.said, subst (All (ClauseFits ls)) z.0 d.read.fit, λ name i. z.1 i name)
module_given spot ops now ls (Err f) d e ss a k = go e
  where
    go : IsModuleRefusal spot ops ls f → (f ≡ fault.Memory) ⊎ ((f ≡ fault.Limit Nesting) × (All (ClauseFits ls) ss → ⊥))
    go (inl m) = inl m
    go (inr (inl h)) = absurd (h.no_header k.header)
    go (inr (inr b)) = behind_given spot ops ls f ss a k b
