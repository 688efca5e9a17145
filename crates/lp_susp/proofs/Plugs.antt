-- Frames around a term: a leftmost step inside is one of the whole, and reductions inside are reductions of the whole.
use Rattle.std.proofs.Common.{◌≡◌, ℕ, suc, ◌+◌, ◌⊎◌, inl, inr, List, [], ◌∷◌, ◌++◌, refl, sym, ap, ◌∙◌, subst, arith, Option, Some, None}
use Rattle.std.specs.Prelude.{All, IsSome}
use Rattle.std.proofs.lemmas.List.Elements.{All-cons}
use Rattle.lp_lemmas.proofs.Options.{IsSome_from}
use Rattle.lp_calculus.specs.Term.{Term, index, atom, abs, app, apply, substitute}
use Rattle.lp_calculus.specs.Convert.{head_step, leftmost_step, option_term, or_else, steps, Reduces, done, then_step, BetaStep, here, beta, in_abs, in_head, in_argument}
use Rattle.lp_calculus.proofs.Confluent.{reduces_on, reduces_abs, reduces_app, reduces_argument, reduces_pars}
use Rattle.lp_calculus.proofs.Leftmost.{leftmost_strategy}
use Rattle.lp_store.specs.Contents.{Contents, span}
use Rattle.lp_store.specs.Reading.{Reads, ReadAll, none, more}
use Rattle.lp_term.specs.Nodes.{Nodes, tree, Extends}
use Rattle.lp_susp.specs.declared.reading.Frame.{Frame}
use Rattle.lp_susp.specs.declared.reading.Frame.TheVariants.{Under, Head, Argument}
use Rattle.lp_susp.specs.Kept.{Reduced, Grows}
use Rattle.lp_susp.specs.Counted.{Counts, Works, rests, contracts, elsewhere, IsApplication}
use Rattle.lp_susp.specs.Frames.{IsNeutral, numbers, Framed, Plugged, FrameStands}
use Rattle.lp_susp.proofs.Heads.{all_longer}

-- neutral terms
pub neutral_apply : (t : Term) (us : List Term) → IsNeutral (apply t us) → IsNeutral t
neutral_apply t [] h = h
neutral_apply t (u ∷ us) h = neutral_apply (app t u) us h

none_of : (f : Term → Term) (o : Option Term) → option_term f o ≡ None → o ≡ None
none_of f None e = refl
none_of f (Some x) e = absurd (cc)

pub none_neutral : (t u : Term) → head_step (app t u) ≡ None → IsNeutral (app t u)
none_neutral (index i) u e = tt
none_neutral (atom a) u e = tt
none_neutral (abs b) u e = absurd (cc)
none_neutral (app t v) u e = none_neutral t v (none_of (λ s. app s u) (head_step (app t v)) e)

pub neutral_none : (t : Term) → IsNeutral t → head_step t ≡ None
neutral_none (index i) h = refl
neutral_none (atom a) h = refl
neutral_none (abs b) h = absurd h
neutral_none (app (index i) u) h = refl
neutral_none (app (atom a) u) h = refl
neutral_none (app (abs b) u) h = absurd h
neutral_none (app (app t v) u) h = ap (option_term (λ s. app s u)) (neutral_none (app t v) h)

pub none_head_neutral : (t : Term) (us : List Term) (u : Term) → head_step (apply t (u ∷ us)) ≡ None → IsNeutral t
none_head_neutral t us u e = go t u us e
  where
    go : (t u : Term) (us : List Term) → head_step (apply (app t u) us) ≡ None → IsNeutral t
    go t u [] e = none_neutral t u e
    go t u (v ∷ vs) e = go (app t u) v vs e

pub under_none : (b : Term) → head_step (abs b) ≡ None → head_step b ≡ None
under_none b e = none_of abs (head_step b) e

pub neutral_beta : {t s : Term} → IsNeutral t → BetaStep t s → IsNeutral s
neutral_beta h (here (beta b u)) = absurd h
neutral_beta h (in_abs p) = absurd h
neutral_beta h (in_head u p) = neutral_beta h p
neutral_beta h (in_argument t p) = h

pub neutral_reduces : {t s : Term} → IsNeutral t → Reduces t s → IsNeutral s
neutral_reduces h (done t) = h
neutral_reduces h (then_step p ps) = neutral_reduces (neutral_beta h p) ps

-- leftmost steps
of_option : (f : Term → Term) (o : Option Term) (r : Term) → option_term f o ≡ Some r → (x : Term) × (o ≡ Some x) × (r ≡ f x)
of_option f None r e = absurd (cc)
of_option f (Some x) r e = (x, refl, (cc))

or_cases : (a b : Option Term) (g h : Term → Term) (r : Term) → or_else (option_term g a) (option_term h b) ≡ Some r → ((x : Term) × (a ≡ Some x) × (r ≡ g x)) ⊎ ((x : Term) × (b ≡ Some x) × (r ≡ h x))
or_cases None None g h r e = absurd (cc)
or_cases None (Some x) g h r e = inr (x, refl, (cc))
or_cases (Some x) b g h r e = inl (x, refl, (cc))

pub leftmost_beta : (t s : Term) → leftmost_step t ≡ Some s → BetaStep t s
leftmost_beta (index i) s e = absurd (cc)
leftmost_beta (atom a) s e = absurd (cc)
leftmost_beta (abs b) s e = let k = of_option abs (leftmost_step b) s e in subst (BetaStep (abs b)) (sym k.2) (in_abs (leftmost_beta b k.0 k.1))
leftmost_beta (app (abs b) u) s e = let q : substitute u b ≡ s = cc in subst (BetaStep (app (abs b) u)) q (here (beta b u))
leftmost_beta (app (index i) u) s e = let k = of_option (app (index i)) (leftmost_step u) s e in subst (BetaStep (app (index i) u)) (sym k.2) (in_argument (index i) (leftmost_beta u k.0 k.1))
leftmost_beta (app (atom a) u) s e = let k = of_option (app (atom a)) (leftmost_step u) s e in subst (BetaStep (app (atom a) u)) (sym k.2) (in_argument (atom a) (leftmost_beta u k.0 k.1))
leftmost_beta (app (app t v) u) s e =
    elim (or_cases (leftmost_step (app t v)) (leftmost_step u) (λ y. app y u) (app (app t v)) s e) [
      | inl k ↦ subst (BetaStep (app (app t v) u)) (sym k.2) (in_head u (leftmost_beta (app t v) k.0 k.1))
      | inr k ↦ subst (BetaStep (app (app t v) u)) (sym k.2) (in_argument (app t v) (leftmost_beta u k.0 k.1))
    ]

pub head_leftmost : (t r : Term) → head_step t ≡ Some r → leftmost_step t ≡ Some r
head_leftmost (index i) r e = absurd (cc)
head_leftmost (atom a) r e = absurd (cc)
head_leftmost (abs b) r e = let k = of_option abs (head_step b) r e in ap (option_term abs) (head_leftmost b k.0 k.1) ∙ ap (λ x. Some x) (sym k.2)
head_leftmost (app (abs b) u) r e = e
head_leftmost (app (index i) u) r e = absurd (cc)
head_leftmost (app (atom a) u) r e = absurd (cc)
head_leftmost (app (app t v) u) r e =
    let k = of_option (λ y. app y u) (head_step (app t v)) r e in
    ap (λ o. or_else (option_term (λ y. app y u) o) (option_term (app (app t v)) (leftmost_step u))) (head_leftmost (app t v) k.0 k.1) ∙ ap (λ x. Some x) (sym k.2)

leftmost-app : (t u s : Term) (xs : List Term) → leftmost_step (app t u) ≡ Some s → leftmost_step (apply (app t u) xs) ≡ Some (apply s xs)
leftmost-app t u s [] e = e
leftmost-app t u s (x ∷ xs) e = leftmost-app (app t u) x (app s x) xs (ap (λ o. or_else (option_term (λ y. app y x) o) (option_term (app (app t u)) (leftmost_step x))) e)

pub leftmost_apply : (t s : Term) (xs : List Term) → IsApplication t → leftmost_step t ≡ Some s → leftmost_step (apply t xs) ≡ Some (apply s xs)
leftmost_apply t s xs a e = ap (λ y. leftmost_step (apply y xs)) a.2 ∙ leftmost-app a.0 a.1 s xs (ap leftmost_step (sym a.2) ∙ e)

neutral_application : (y r : Term) → IsNeutral y → leftmost_step y ≡ Some r → IsApplication y
neutral_application (index i) r h e = absurd (cc)
neutral_application (atom a) r h e = absurd (cc)
neutral_application (abs b) r h e = absurd h
neutral_application (app t u) r h e = (t, u, refl)

argument_step : (d y r : Term) → IsNeutral d → leftmost_step d ≡ None → leftmost_step y ≡ Some r → leftmost_step (app d y) ≡ Some (app d r)
argument_step (index i) y r h n e = ap (option_term (app (index i))) e
argument_step (atom a) y r h n e = ap (option_term (app (atom a))) e
argument_step (abs b) y r h n e = absurd h
argument_step (app t u) y r h n e =
    ap (λ o. or_else (option_term (λ s. app s y) o) (option_term (app (app t u)) (leftmost_step y))) n ∙ ap (option_term (app (app t u))) e

pub argument_normal : (d y : Term) → IsNeutral d → leftmost_step d ≡ None → leftmost_step y ≡ None → leftmost_step (app d y) ≡ None
argument_normal (index i) y h n e = ap (option_term (app (index i))) e
argument_normal (atom a) y h n e = ap (option_term (app (atom a))) e
argument_normal (abs b) y h n e = absurd h
argument_normal (app t u) y h n e =
    ap (λ o. or_else (option_term (λ s. app s y) o) (option_term (app (app t u)) (leftmost_step y))) n ∙ ap (option_term (app (app t u))) e

-- one more frame, or one less
pub plug_push : (s : Contents) (b : Nodes) (fs : List Frame) (f : Frame) (x y w : Term) → Framed s b f x y → Plugged s b fs y w → Plugged s b (fs ++ f ∷ []) x w
plug_push s b [] f x y w a p = (x, refl, subst (Framed s b f x) p a)
plug_push s b (g ∷ gs) f x y w a p = (p.0, plug_push s b gs f x y p.0 a p.1, p.2)

pub plug_pop : (s : Contents) (b : Nodes) (fs : List Frame) (f : Frame) (x w : Term) → Plugged s b (fs ++ f ∷ []) x w → (y : Term) × Framed s b f x y × Plugged s b fs y w
plug_pop s b [] f x w p = (w, subst (λ v. Framed s b f v w) (sym p.1) p.2, refl)
plug_pop s b (g ∷ gs) f x w p = let k = plug_pop s b gs f x p.0 p.1 in (k.0, k.1, (p.0, k.2, p.2))

-- a larger bank has the same trees
framed_bank : (s : Contents) (b d : Nodes) → Extends b d → (f : Frame) → FrameStands s b f → (x w : Term) → Framed s b f x w → Framed s d f x w
framed_bank s b d e Under h x w p = p
framed_bank s b d e (Head l) h x w p = p
framed_bank s b d e (Argument t l) h x w p = subst (λ v. (us : List Term) × ReadAll s (numbers (span s.items l.from l.count)) us × (w ≡ apply (app v x) us) × IsNeutral v × (leftmost_step v ≡ None)) (sym (e.same_terms t.0 h.1)) p

pub plug_bank : (s : Contents) (b d : Nodes) → Extends b d → (fs : List Frame) → All (FrameStands s b) fs → (x w : Term) → Plugged s b fs x w → Plugged s d fs x w
plug_bank s b d e [] a x w p = p
plug_bank s b d e (f ∷ fs) a x w p = (p.0, plug_bank s b d e fs (λ k c h. a (suc k) c (omega arith)) x p.0 p.1, framed_bank s b d e f (a 0 f (omega arith)) p.0 w p.2)

stands_more : (s z : Contents) (b d : Nodes) → Grows s z → Extends b d → (f : Frame) → FrameStands s b f → FrameStands z d f
stands_more s z b d g e Under h = tt
stands_more s z b d g e (Head l) h = (omega (arith, h.0, g.more_items), h.1)
stands_more s z b d g e (Argument t l) h = (omega (arith, h.0, g.more_items), omega (arith, h.1, e.more_terms))

pub all_stand_more : (s z : Contents) (b d : Nodes) → Grows s z → Extends b d → (fs : List Frame) → All (FrameStands s b) fs → All (FrameStands z d) fs
all_stand_more s z b d g e [] a = λ k c h. absurd (omega arith)
all_stand_more s z b d g e (f ∷ fs) a = All-cons (FrameStands z d) f fs (stands_more s z b d g e f (a 0 f (omega arith))) (all_stand_more s z b d g e fs (λ k c h. a (suc k) c (omega arith)))

-- a leftmost step inside is one of the whole
framed_step : (s : Contents) (b : Nodes) (f : Frame) (x r w : Term) → Framed s b f x w → leftmost_step x ≡ Some r → (v : Term) × (leftmost_step w ≡ Some v) × Framed s b f r v
framed_step s b Under x r w p e = (abs r, ap leftmost_step p ∙ ap (option_term abs) e, refl)
framed_step s b (Head l) x r w p e =
    (apply r p.0, ap leftmost_step p.2 ∙ leftmost_apply x r p.0 (neutral_application x r p.3 e) e, (p.0, p.1, refl, neutral_reduces p.3 (then_step (leftmost_beta x r e) (done r))))
framed_step s b (Argument t l) x r w p e =
    let d = tree b t.0 in
    (apply (app d r) p.0, ap leftmost_step p.2 ∙ leftmost_apply (app d x) (app d r) p.0 (d, x, refl) (argument_step d x r p.3 p.4 e), (p.0, p.1, refl, p.3, p.4))

pub plug_step : (s : Contents) (b : Nodes) (fs : List Frame) (x r w : Term) → Plugged s b fs x w → leftmost_step x ≡ Some r → (v : Term) × (leftmost_step w ≡ Some v) × Plugged s b fs r v
plug_step s b [] x r w p e = (r, ap leftmost_step (sym p) ∙ e, refl)
plug_step s b (f ∷ fs) x r w p e =
    let k = plug_step s b fs x r p.0 p.1 e in
    let q = framed_step s b f p.0 k.0 w p.2 k.1 in
    (q.0, q.1, (k.0, k.2, q.2))

-- reductions inside and beside are reductions of the whole
reduce_all : (s z : Contents) → ((j : ℕ) (t : Term) → Reads s j t → (u : Term) × Reads z j u × Reduces t u) → {is : List ℕ} {ts : List Term} → ReadAll s is ts → (f g : Term) → Reduces f g →
    (us : List Term) × ReadAll z is us × Reduces (apply f ts) (apply g us)
reduce_all s z n none f g r = ([], none, r)
reduce_all s z n (more {i = i} {t = t} o p) f g r =
    let u = n i t o in
    let v = reduce_all s z n p (app f t) (app g u.0) (reduces_app r u.2) in
    (u.0 ∷ v.0, more u.1 v.1, v.2)

framed_kept : (s z : Contents) (b : Nodes) → Reduced s z → (f : Frame) → FrameStands s b f → (x y w : Term) → Reduces x y → Framed s b f x w → (v : Term) × Framed z b f y v × Reduces w v
framed_kept s z b n Under h x y w r p = (abs y, refl, subst (λ u. Reduces u (abs y)) (sym p) (reduces_abs r))
framed_kept s z b n (Head l) h x y w r p =
    let k = reduce_all s z n.terms p.1 x y r in
    (apply y k.0, (k.0, subst (λ l. ReadAll z (numbers l) k.0) (sym (n.grows.items l.from l.count h.0)) k.1, refl, neutral_reduces p.3 r), subst (λ u. Reduces u (apply y k.0)) (sym p.2) k.2)
framed_kept s z b n (Argument t l) h x y w r p =
    let d = tree b t.0 in
    let k = reduce_all s z n.terms p.1 (app d x) (app d y) (reduces_argument d r) in
    (apply (app d y) k.0, (k.0, subst (λ l. ReadAll z (numbers l) k.0) (sym (n.grows.items l.from l.count h.0)) k.1, refl, p.3, p.4), subst (λ u. Reduces u (apply (app d y) k.0)) (sym p.2) k.2)

pub plug_kept : (s z : Contents) (b : Nodes) → Reduced s z → (fs : List Frame) → All (FrameStands s b) fs → (x y w : Term) → Reduces x y → Plugged s b fs x w → (v : Term) × Plugged z b fs y v × Reduces w v
plug_kept s z b n [] a x y w r p = (y, refl, subst (λ u. Reduces u y) p r)
plug_kept s z b n (f ∷ fs) a x y w r p =
    let k = plug_kept s z b n fs (λ k c h. a (suc k) c (omega arith)) x y p.0 r p.1 in
    let q = framed_kept s z b n f (a 0 f (omega arith)) p.0 k.0 w k.2 p.2 in
    (q.0, (k.0, k.1, q.1), q.2)

-- what was worked inside was worked on the whole
pub counts_on : {f : Term → Option Term} {n m : ℕ} {t s r : Term} → Counts f n t s → Counts f m s r → (k : ℕ) → k ≡ n + m → Counts f k t r
counts_on {f} {m = m} {r = r} (rests t) v k e = (let q : m ≡ k = omega arith in subst (λ j. Counts f j t r) q v)
counts_on {f} {n = suc n} {m = m} {r = r} (contracts {t = t} e w) v k q = (let p : suc (n + m) ≡ k = omega arith in subst (λ j. Counts f j t r) p (contracts e (counts_on w v (n + m) refl)))
counts_on (elsewhere p w) v k e = elsewhere p (counts_on w v k e)

pub plug_works : (s : Contents) (b : Nodes) (fs : List Frame) → All (FrameStands s b) fs → (same : Reduced s s) → {n : ℕ} {x y : Term} → Works n x y → (w : Term) → Plugged s b fs x w → (v : Term) × Plugged s b fs y v × Counts leftmost_step n w v
plug_works s b fs a same (rests x) w p = (w, p, rests w)
plug_works s b fs a same (contracts {t = t} {r = r} e q) w p =
    let k = plug_step s b fs t r w p (head_leftmost t r e) in
    let m = plug_works s b fs a same q k.0 k.2 in
    (m.0, m.1, contracts k.1 m.2)
plug_works s b fs a same (elsewhere {t = t} {r = r} e q) w p =
    let k = plug_kept s s b same fs a t r w e p in
    let m = plug_works s b fs a same q k.0 k.1 in
    (m.0, m.1, elsewhere k.2 m.2)

pub counts_reduce : {n : ℕ} {t s : Term} → Counts leftmost_step n t s → Reduces t s
counts_reduce (rests t) = done t
counts_reduce (contracts {t = t} {r = r} e w) = then_step (leftmost_beta t r e) (counts_reduce w)
counts_reduce (elsewhere p w) = reduces_on p (counts_reduce w)

pub counts_longer : {n : ℕ} {t s : Term} → Counts leftmost_step n t s → (m k : ℕ) → k ≡ n + m → IsSome (steps leftmost_step m s) → IsSome (steps leftmost_step k t)
counts_longer (rests t) m k e h = (let q : m ≡ k = omega arith in subst (λ j. IsSome (steps leftmost_step j t)) q h)
counts_longer {n = suc n} (contracts {t = t} {r = r} e w) m k q h =
    let p : suc (n + m) ≡ k = omega arith in
    subst (λ j. IsSome (steps leftmost_step j t)) p
    (subst IsSome (sym (ap (λ o. elim o as (λ x. Option Term) [ None ↦ None | Some y ↦ steps leftmost_step (n + m) y ]) e)) (counts_longer w m (n + m) refl h))
counts_longer (elsewhere p w) m k e h = all_longer leftmost_step leftmost_strategy k (reduces_pars p) (counts_longer w m k e h)

one_step : (o : Option Term) → IsSome o → IsSome (elim o as (λ x. Option Term) [ None ↦ None | Some y ↦ Some y ])
one_step None h = absurd (cc)
one_step (Some x) h = refl

pub one_more_step : (w v : Term) → leftmost_step w ≡ Some v → IsSome (steps leftmost_step 1 w)
one_more_step w v e = one_step (leftmost_step w) (IsSome_from (leftmost_step w) v e)
