-- In a typed state no unification binds a type variable that is still to come.
use Rattle.std.proofs.Common.{◌≡◌, ◌<◌, ◌≤◌, ℕ, ◌+◌, List, [], ◌∷◌, length, Some, refl, ap, ◌∙◌, subst, arith}
use Rattle.lp_calculus.specs.Instance.{instance_term}
use Rattle.lp_calculus.specs.Spine.{arguments, head_of}
use Rattle.lp_calculus.specs.Term.{Term}
use Rattle.lp_calculus.specs.Types.{Ty, var}
use Rattle.lp_lemmas.specs.Each.{EachOf}
use Rattle.lp_model.specs.Answers.{Query, Variable}
use Rattle.lp_model.specs.Branch.{Branch, Entry}
use Rattle.lp_model.specs.Flat.{Clause, Goals, clause}
use Rattle.lp_model.specs.Pair.{Closing, Pair}
use Rattle.lp_model.specs.Proofs.{Declared}
use Rattle.lp_model.specs.Rule.{type_pairs}
use Rattle.lp_model.specs.Search.{pairs_of, renewed, slots_of, slotted}
use Rattle.lp_model.specs.Types.{put_types}
use Rattle.lp_model.specs.Unify.{Solution, State as Solved, solve, unit_limit}
use Rattle.lp_standard.specs.Schemes.{IsStandard}
use Rattle.lp_unify_laws.specs.TypesBelow.{IsTypeBelow}
use Rattle.lp_search_laws.specs.Branches.{AreTypedEntries, BranchTyping, IsPlainPair, IsProgramTyped, IsTypedTry}
use Rattle.lp_search_laws.proofs.PlainTry.{eqs_plain, pairs_plain, term_more}
use Rattle.lp_search_laws.proofs.RunsKeep.{solve_keeps_plain}
use Rattle.lp_search_laws.proofs.TypesOver.{Not, each_more, free_stays}

-- each type variable that is bound is below k
abbrev pub BindsBelow : (k : ℕ) → Solved → Type 0
BindsBelow k s = EachOf (λ b. b.id < k) s.types

eigens_of : (d : Declared) (V : List Variable) (Es : List (List Ty)) (e : Entry) (es : List Entry) → AreTypedEntries d V Es (e ∷ es) → (E : List Ty) × (Fs : List (List Ty)) × (Es ≡ E ∷ Fs)
eigens_of d V [] e es h = absurd h
eigens_of d V (E ∷ Fs) e es h = (E, Fs, refl)

pair_more : (k j : ℕ) → k ≤ j → (p : Pair) → IsPlainPair k p → IsPlainPair j p
pair_more k j l p h = record { left = term_more k j (λ i m. omega (arith, l, m)) p.left h.left; right = term_more k j (λ i m. omega (arith, l, m)) p.right h.right }

-- what a unification of plain terms binds
pub plain_bound : (n k next : ℕ) (ps ds : List Pair) (s : Solved) → EachOf (IsPlainPair k) ps → EachOf (IsPlainPair k) ds → solve n unit_limit [] ps ds next ≡ Some (Solution s) → BindsBelow k s
plain_bound n k next ps ds s hp hd e = each_more (λ b. (b.id < k) × IsTypeBelow k b.value) (λ b. b.id < k) (λ b h. h.0) s.types (solve_keeps_plain k n unit_limit [] ps ds next s tt hp hd e).2

-- of a typed try
pub try_bound : (n : ℕ) (d : Declared) → IsStandard d → (P : List Clause) → EachOf (IsProgramTyped d) P → (q : Query) (y : BranchTyping) (k : ℕ)
    (vs : List Ty) (h : Term) (g : Goals) (t : Term) (e : Entry) (b : Branch) →
    IsTypedTry n d P q y (clause k vs h g) t e b → (last : ℕ) (s : Solved) →
    solve n unit_limit (type_pairs (head_of t) (head_of (instance_term (renewed k b.next_type) h)))
    (pairs_of (slotted (slots_of [] (arguments (instance_term (renewed k b.next_type) h)) (arguments t)) b.next e.level) e.level []
    (arguments (instance_term (renewed k b.next_type) h)) (arguments t)) b.pairs last ≡ Some (Solution s) →
    BindsBelow (b.next_type + k) s
try_bound n d std P program q y k vs h g t e b w last s q' =
    let E = eigens_of d y.answer.variables y.eigens _ b.goals w.branch.entries in
    let x = instance_term (renewed k b.next_type) h in
    let many : length y.answer.variables ≡ b.next = w.branch.answer.variables in
    let ps =
    subst (λ j. EachOf (IsPlainPair (b.next_type + k)) (pairs_of (slotted (slots_of [] (arguments x) (arguments t)) j e.level) e.level [] (arguments x) (arguments t))) many
    (pairs_plain n d std P program q y k vs h g t e b w E.0 E.1 E.2) in
    let es = eqs_plain n d std P program q y k vs h g t e b w E.0 E.1 E.2 in
    let ds = each_more (IsPlainPair b.next_type) (IsPlainPair (b.next_type + k)) (pair_more b.next_type (b.next_type + k) (omega arith)) b.pairs w.branch.pairs in
    each_more (λ c. (c.id < b.next_type + k) × IsTypeBelow (b.next_type + k) c.value) (λ c. c.id < b.next_type + k) (λ c h'. h'.0) s.types
    (solve_keeps_plain (b.next_type + k) n unit_limit (type_pairs (head_of t) (head_of x))
    (pairs_of (slotted (slots_of [] (arguments x) (arguments t)) b.next e.level) e.level [] (arguments x) (arguments t)) b.pairs last s es ps ds q').2

-- behind it, what was not bound before and comes later is not
pub free_behind : (k : ℕ) (s : Solved) (z c : Closing) → BindsBelow k s → ((x : ℕ) → c.types x ≡ put_types s.types (z.types x)) →
    ((x : ℕ) → k ≤ x → z.types x ≡ var x) → (x : ℕ) → k ≤ x → c.types x ≡ var x
free_behind k s z c g t f x l =
    t x ∙ ap (put_types s.types) (f x l) ∙ free_stays s.types x (each_more (λ b. b.id < k) (λ b. Not b.id x) (λ b h. λ e. let q : b.id < k = h in omega (arith, l, e, q)) s.types g)
