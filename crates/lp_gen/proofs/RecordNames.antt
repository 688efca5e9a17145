-- The type variables that a record makes, and the records that it names.
use Rattle.std.proofs.Common.{◌≡◌, ◌∙◌, ℕ, zero, suc, ◌+◌, List, [], ◌∷◌, ◌++◌, append_assoc, length, Bool, true, false, ap, refl, sym, arith}
use Rattle.std.specs.Prelude.{nat_eq, ◌||◌, if◌then◌else◌}
use Rattle.std.proofs.lemmas.List.{append-nil}
use Rattle.lp_calculus.specs.Types.{Ty}
use Rattle.lp_model.specs.Flat.{Goal, Goals, Clauses, Atomic, Cut, Either, Exists, Forall, Assume, Not, no_goals, goals}
use Rattle.lp_code.specs.declared.instruction.Instr.{Instr}
use Rattle.lp_code.specs.declared.instruction.Instr.TheVariants as on
use Rattle.lp_code.specs.declared.record.Record.{Record}
use Rattle.lp_code.specs.States.{member}
use Rattle.lp_code.specs.Steps.{is_made, is_own_type}
use Rattle.lp_code.specs.Rules.{names_of, names_in}
use Rattle.lp_gen.specs.Steps.{Around}
use Rattle.lp_gen.specs.inner.Owned.{new_type, makes_types}
use Rattle.lp_gen.specs.inner.Bodies.{pushed}
use Rattle.lp_gen.specs.inner.GoalCode.{quantified, numbers, GoalCode, GoalsCode}
use Rattle.lp_gen.specs.inner.Entering.{news}
use Rattle.lp_gen.proofs.CodeMapped.{numbers_both, names_both}

abbrev pub tynew : Instr → List ℕ
tynew (on.TyNew d) = d ∷ []
tynew i = []

no_more : (x : ℕ) (xs : List ℕ) → x ∷ xs ≡ [] → ⊥
no_more x xs e = cc

front_none : (xs ys : List ℕ) → xs ++ ys ≡ [] → (xs ≡ []) × (ys ≡ [])
front_none [] ys e = (refl, e)
front_none (x ∷ xs) ys e = absurd (no_more x (xs ++ ys) e)

tynew_none : (i : Instr) → new_type i ≡ [] → tynew i ≡ []
tynew_none (on.TyCon d k ts) e = refl
tynew_none (on.TyArr d a b) e = refl
tynew_none (on.TyNew d) e = absurd (no_more d [] e)
tynew_none (on.New d t) e = refl
tynew_none (on.PutConst d c ts) e = refl
tynew_none (on.PutInt d z) e = refl
tynew_none (on.PutStr d b) e = refl
tynew_none (on.PutIndex d i t) e = refl
tynew_none (on.PutAbs d b t) e = refl
tynew_none (on.PutApp d f rs) e = refl
tynew_none (on.GetType j t) e = refl
tynew_none (on.GetVar i d) e = refl
tynew_none (on.Get i r) e = refl
tynew_none (on.GetConst i c ts) e = refl
tynew_none (on.GetInt i z) e = refl
tynew_none (on.GetStr i b) e = refl
tynew_none on.Neck e = refl
tynew_none (on.Call c ts rs) e = refl
tynew_none (on.CallTerm r) e = refl
tynew_none (on.Equal t l r) e = refl
tynew_none (on.Is t l r) e = refl
tynew_none (on.Less l r) e = refl
tynew_none (on.Greater l r) e = refl
tynew_none (on.AtMost l r) e = refl
tynew_none (on.AtLeast l r) e = refl
tynew_none on.Cut e = refl
tynew_none (on.Sigma d t) e = refl
tynew_none (on.All d t) e = refl
tynew_none on.EndAll e = refl
tynew_none (on.Assume ns ts rs) e = refl
tynew_none on.EndAssume e = refl
tynew_none (on.Either n) e = refl
tynew_none (on.Jump n) e = refl
tynew_none on.Proceed e = refl
tynew_none on.Not e = refl
tynew_none on.EndNot e = refl

names_none : (i : Instr) → new_type i ≡ [] → names_of i ≡ []
names_none (on.TyCon d k ts) e = refl
names_none (on.TyArr d a b) e = refl
names_none (on.TyNew d) e = absurd (no_more d [] e)
names_none (on.New d t) e = refl
names_none (on.PutConst d c ts) e = refl
names_none (on.PutInt d z) e = refl
names_none (on.PutStr d b) e = refl
names_none (on.PutIndex d i t) e = refl
names_none (on.PutAbs d b t) e = refl
names_none (on.PutApp d f rs) e = refl
names_none (on.GetType j t) e = refl
names_none (on.GetVar i d) e = refl
names_none (on.Get i r) e = refl
names_none (on.GetConst i c ts) e = refl
names_none (on.GetInt i z) e = refl
names_none (on.GetStr i b) e = refl
names_none on.Neck e = refl
names_none (on.Call c ts rs) e = refl
names_none (on.CallTerm r) e = refl
names_none (on.Equal t l r) e = refl
names_none (on.Is t l r) e = refl
names_none (on.Less l r) e = refl
names_none (on.Greater l r) e = refl
names_none (on.AtMost l r) e = refl
names_none (on.AtLeast l r) e = refl
names_none on.Cut e = refl
names_none (on.Sigma d t) e = refl
names_none (on.All d t) e = refl
names_none on.EndAll e = refl
names_none (on.Assume ns ts rs) e = e
names_none on.EndAssume e = refl
names_none (on.Either n) e = refl
names_none (on.Jump n) e = refl
names_none on.Proceed e = refl
names_none on.Not e = refl
names_none on.EndNot e = refl

abbrev pub tynews : List Instr → List ℕ
tynews [] = []
tynews (i ∷ is) = tynew i ++ tynews is

tynews_both : (xs ys : List Instr) → tynews (xs ++ ys) ≡ tynews xs ++ tynews ys
tynews_both [] ys = refl
tynews_both (i ∷ is) ys = ap (λ l. tynew i ++ l) (tynews_both is ys) ∙ sym (append_assoc (tynew i) (tynews is) (tynews ys))

-- code that makes none and assumes none
pub no_tynews : (is : List Instr) → makes_types is ≡ [] → tynews is ≡ []
no_tynews [] e = refl
no_tynews (i ∷ is) e = let x = front_none (new_type i) (makes_types is) e in λ j. tynew_none i x.0 j ++ no_tynews is x.1 j

pub no_names_in : (is : List Instr) → makes_types is ≡ [] → names_in is ≡ []
no_names_in [] e = refl
no_names_in (i ∷ is) e = let x = front_none (new_type i) (makes_types is) e in λ j. names_none i x.0 j ++ no_names_in is x.1 j

pub none_both : (xs ys : List Instr) → tynews xs ≡ [] → tynews ys ≡ [] → tynews (xs ++ ys) ≡ []
none_both xs ys x y = tynews_both xs ys ∙ (λ i. x i ++ y i)

more_none : (i : Instr) (is : List Instr) → tynew i ≡ [] → tynews is ≡ [] → tynews (i ∷ is) ≡ []
more_none i is x y = λ j. x j ++ y j

names_two : (q n m : ℕ) (xs ys : List Instr) → names_in xs ≡ numbers q n → names_in ys ≡ numbers (q + n) m → names_in (xs ++ ys) ≡ numbers q (n + m)
names_two q n m xs ys x y = names_both xs ys ∙ (λ i. x i ++ y i) ∙ numbers_both q n m

names_more : (i : Instr) (is : List Instr) (ns : List ℕ) → names_of i ≡ [] → names_in is ≡ ns → names_in (i ∷ is) ≡ ns
names_more i is ns x y = λ j. x j ++ y j

names_end : (is : List Instr) (i : Instr) (ns : List ℕ) → names_in is ≡ ns → names_of i ≡ [] → names_in (is ++ i ∷ []) ≡ ns
names_end is i ns x y = names_both is (i ∷ []) ∙ (λ j. x j ++ (y j ++ [])) ∙ append-nil ns

-- the code of goals
module _ (P : Around → (records levels : List ℕ) → Clauses → Type 0) (K : ℕ → List Ty → Ty) (v : ℕ) where
  mutual
    goal_none : (a : Around) (n n' k k' q q' : ℕ) (g : Goal) (is : List Instr) → GoalCode P K v a n n' k k' q q' g is → tynews is ≡ []
    goal_none a n n' k k' q q' (Atomic t) is (c, same) = ap tynews c.code_is ∙ no_tynews c.written.more c.written.no_types
    goal_none a n n' k k' q q' Cut is (x, y, z, e) = ap tynews e
    goal_none a n n' k k' q q' (Either gs hs) is (m, l, o, nl, mr, ls, rs, x, y, el, er, e) =
        ap tynews e ∙ more_none (on.Either nl) (ls ++ on.Jump mr ∷ rs) refl (none_both ls (on.Jump mr ∷ rs) (goals_none a n m k l q o gs ls x)
        (more_none (on.Jump mr) rs refl (goals_none a m n' l k' o q' hs rs y)))
    goal_none a n n' k k' q q' (Exists T gs) is (m, r, ts, js, x, short, y, e) =
        ap tynews e ∙ none_both ts (on.Sigma k r ∷ [] ++ js) (ap tynews x.code_is ∙ no_tynews x.put.more x.put.plain.no_types)
        (more_none (on.Sigma k r) js refl (goals_none (pushed a (quantified k T)) m n' (k + 1) k' q q' gs js y))
    goal_none a n n' k k' q q' (Forall T gs) is (m, r, ts, js, x, short, y, e) =
        ap tynews e ∙ none_both ts (on.All k r ∷ [] ++ (js ++ on.EndAll ∷ [])) (ap tynews x.code_is ∙ no_tynews x.put.more x.put.plain.no_types)
        (more_none (on.All k r) (js ++ on.EndAll ∷ []) refl (none_both js (on.EndAll ∷ []) (goals_none (pushed a (quantified k T)) m n' (k + 1) k' q q' gs js y) refl))
    goal_none a n n' k k' q q' (Assume w cs gs) is (ns, ts, rs, ls, js, coded, captured, types, names, x, e) =
        ap tynews e ∙ more_none (on.Assume ns ts rs) (js ++ on.EndAssume ∷ []) refl (none_both js (on.EndAssume ∷ []) (goals_none a n n' k k' (q + length ns.items) q' gs js x) refl)
    goal_none a n n' k k' q q' (Not w gs) is (js, x, e) =
        ap tynews e ∙ more_none on.Not (js ++ on.EndNot ∷ []) refl (none_both js (on.EndNot ∷ []) (goals_none a n n' k k' q q' gs js x) refl)

    pub goals_none : (a : Around) (n n' k k' q q' : ℕ) (gs : Goals) (is : List Instr) → GoalsCode P K v a n n' k k' q q' gs is → tynews is ≡ []
    goals_none a n n' k k' q q' no_goals is (x, y, z, e) = ap tynews e
    goals_none a n n' k k' q q' (goals g gs) is (m, l, o, js, ks, x, y, last, e) = ap tynews e ∙ none_both js ks (goal_none a n m k l q o g js x) (goals_none a m n' l k' o q' gs ks y)

  -- it names the next records, one after the other
  abbrev Names : (q q' : ℕ) → List Instr → Type 0
  Names q q' is = (n : ℕ) × (names_in is ≡ numbers q n) × (q' ≡ q + n)

  two : (q o q' : ℕ) (xs ys : List Instr) → Names q o xs → Names o q' ys → Names q q' (xs ++ ys)
  two q o q' xs ys (n, x, e) (m, y, f) = (n + m, names_two q n m xs ys x (y ∙ ap (λ z. numbers z m) e), let z : q' ≡ q + (n + m) = omega (arith, e, f) in z)

  one : (q q' : ℕ) (i : Instr) (is : List Instr) → names_of i ≡ [] → Names q q' is → Names q q' (i ∷ is)
  one q q' i is none (n, x, e) = (n, names_more i is (numbers q n) none x, e)

  end : (q q' : ℕ) (is : List Instr) (i : Instr) → names_of i ≡ [] → Names q q' is → Names q q' (is ++ i ∷ [])
  end q q' is i none (n, x, e) = (n, names_end is i (numbers q n) x none, e)

  nothing : (q q' : ℕ) (is : List Instr) → q' ≡ q → names_in is ≡ [] → Names q q' is
  nothing q q' is e x = (0, x, let z : q' ≡ q + 0 = omega (arith, e) in z)

  as_code : (q q' : ℕ) (is js : List Instr) → is ≡ js → Names q q' js → Names q q' is
  as_code q q' is js e (n, x, f) = (n, ap names_in e ∙ x, f)

  mutual
    goal_names : (a : Around) (n n' k k' q q' : ℕ) (g : Goal) (is : List Instr) → GoalCode P K v a n n' k k' q q' g is → Names q q' is
    goal_names a n n' k k' q q' (Atomic t) is (c, same) = nothing q q' is same (ap names_in c.code_is ∙ no_names_in c.written.more c.written.no_types)
    goal_names a n n' k k' q q' Cut is (x, y, z, e) = nothing q q' is z (ap names_in e)
    goal_names a n n' k k' q q' (Either gs hs) is (m, l, o, nl, mr, ls, rs, x, y, el, er, e) =
        as_code q q' is (on.Either nl ∷ (ls ++ on.Jump mr ∷ rs)) e (one q q' (on.Either nl) (ls ++ on.Jump mr ∷ rs) refl (two q o q' ls (on.Jump mr ∷ rs) (goals_named a n m k l q o gs ls x)
        (one o q' (on.Jump mr) rs refl (goals_named a m n' l k' o q' hs rs y))))
    goal_names a n n' k k' q q' (Exists T gs) is (m, r, ts, js, x, short, y, e) =
        as_code q q' is (ts ++ (on.Sigma k r ∷ [] ++ js)) e (two q q q' ts (on.Sigma k r ∷ js) (nothing q q ts refl (ap names_in x.code_is ∙ no_names_in x.put.more x.put.plain.no_types))
        (one q q' (on.Sigma k r) js refl (goals_named (pushed a (quantified k T)) m n' (k + 1) k' q q' gs js y)))
    goal_names a n n' k k' q q' (Forall T gs) is (m, r, ts, js, x, short, y, e) =
        as_code q q' is (ts ++ (on.All k r ∷ [] ++ (js ++ on.EndAll ∷ []))) e (two q q q' ts (on.All k r ∷ (js ++ on.EndAll ∷ []))
        (nothing q q ts refl (ap names_in x.code_is ∙ no_names_in x.put.more x.put.plain.no_types))
        (one q q' (on.All k r) (js ++ on.EndAll ∷ []) refl (end q q' js on.EndAll refl (goals_named (pushed a (quantified k T)) m n' (k + 1) k' q q' gs js y))))
    goal_names a n n' k k' q q' (Assume w cs gs) is (ns, ts, rs, ls, js, coded, captured, types, names, x, e) =
        as_code q q' is (on.Assume ns ts rs ∷ [] ++ (js ++ on.EndAssume ∷ [])) e (two q (q + length ns.items) q' (on.Assume ns ts rs ∷ [])
        (js ++ on.EndAssume ∷ []) (length ns.items, append-nil ns.items ∙ names, refl)
        (end (q + length ns.items) q' js on.EndAssume refl (goals_named a n n' k k' (q + length ns.items) q' gs js x)))
    goal_names a n n' k k' q q' (Not w gs) is (js, x, e) =
        as_code q q' is (on.Not ∷ [] ++ (js ++ on.EndNot ∷ [])) e (one q q' on.Not (js ++ on.EndNot ∷ []) refl (end q q' js on.EndNot refl (goals_named a n n' k k' q q' gs js x)))

    pub goals_named : (a : Around) (n n' k k' q q' : ℕ) (gs : Goals) (is : List Instr) → GoalsCode P K v a n n' k k' q q' gs is → Names q q' is
    goals_named a n n' k k' q q' no_goals is (x, y, z, e) = nothing q q' is z (ap names_in e)
    goals_named a n n' k k' q q' (goals g gs) is (m, l, o, js, ks, x, y, last, e) = as_code q q' is (js ++ ks) e
        (two q o q' js ks (goal_names a n m k l q o g js x) (goals_named a m n' l k' o q' gs ks y))

-- the type variables of code that begins with them

news_tynews : (r n : ℕ) → tynews (news r n) ≡ numbers r n
news_tynews r zero = refl
news_tynews r (suc n) = ap (λ l. r ∷ l) (news_tynews (suc r) n)

pub tynews_of : (n : ℕ) (rest : List Instr) → tynews rest ≡ [] → tynews (news 0 n ++ rest) ≡ numbers 0 n
tynews_of n rest e = tynews_both (news 0 n) rest ∙ (λ i. news_tynews 0 n i ++ e i) ∙ append-nil (numbers 0 n)

pub news_names : (r n : ℕ) → names_in (news r n) ≡ []
news_names r zero = refl
news_names r (suc n) = news_names (suc r) n

or_assoc : (a b c : Bool) → ((a || b) || c) ≡ (a || (b || c))
or_assoc true b c = refl
or_assoc false b c = refl

member_both : (r : ℕ) (xs ys : List ℕ) → member r (xs ++ ys) ≡ (member r xs || member r ys)
member_both r [] ys = refl
member_both r (x ∷ xs) ys = ap (λ t. nat_eq r x || t) (member_both r xs ys) ∙ sym (or_assoc (nat_eq r x) (member r xs) (member r ys))

made_by : (sets : Instr → List ℕ) → ((i : Instr) → sets i ≡ tynew i) → (is : List Instr) (r : ℕ) → is_made sets is r ≡ member r (tynews is)
made_by sets same [] r = refl
made_by sets same (i ∷ is) r =
    (λ j. if member r (same i j) then true else made_by sets same is r j) ∙ as_or (member r (tynew i)) (member r (tynews is)) ∙ sym (member_both r (tynew i) (tynews is))
  where
    as_or : (a b : Bool) → (if a then true else b) ≡ (a || b)
    as_or true b = refl
    as_or false b = refl

pub own_type_is : (p : Record) (r : ℕ) → is_own_type p r ≡ member r (tynews p.code.items)
own_type_is p r = made_by _ (λ i. elim i [
  | on.TyCon d k ts ↦ refl
  | on.TyArr d a b ↦ refl
  | on.TyNew d ↦ refl
  | on.New d t ↦ refl
  | on.PutConst d c ts ↦ refl
  | on.PutInt d z ↦ refl
  | on.PutStr d b ↦ refl
  | on.PutIndex d i t ↦ refl
  | on.PutAbs d b t ↦ refl
  | on.PutApp d f rs ↦ refl
  | on.GetType j t ↦ refl
  | on.GetVar i d ↦ refl
  | on.Get i r ↦ refl
  | on.GetConst i c ts ↦ refl
  | on.GetInt i z ↦ refl
  | on.GetStr i b ↦ refl
  | on.Neck ↦ refl
  | on.Call c ts rs ↦ refl
  | on.CallTerm r ↦ refl
  | on.Equal t l r ↦ refl
  | on.Is t l r ↦ refl
  | on.Less l r ↦ refl
  | on.Greater l r ↦ refl
  | on.AtMost l r ↦ refl
  | on.AtLeast l r ↦ refl
  | on.Cut ↦ refl
  | on.Sigma d t ↦ refl
  | on.All d t ↦ refl
  | on.EndAll ↦ refl
  | on.Assume ns ts rs ↦ refl
  | on.EndAssume ↦ refl
  | on.Either n ↦ refl
  | on.Jump n ↦ refl
  | on.Proceed ↦ refl
  | on.Not ↦ refl
  | on.EndNot ↦ refl
]) p.code.items r
