-- Failing searches as leaves: they stand where formulas convert and where clauses are the same, and a refuted search is one for each closing of its variables.
use Rattle.std.proofs.Common.{◌≡◌, ℕ, ◌+◌, ◌≤◌, List, [], ◌∷◌, ◌++◌, map, length, Bool, refl, sym, ap, ◌∙◌, subst as transport, inl, inr, append_assoc, append-nil, arith}
use Rattle.std.proofs.lemmas.List.{map-append}
use Rattle.lp_calculus.specs.Types.{Ty, instance}
use Rattle.lp_calculus.specs.Term.{Term}
use Rattle.lp_calculus.specs.Typing.{o_type}
use Rattle.lp_calculus.specs.Convert.{same}
use Rattle.lp_lemmas.specs.Each.{EachOf}
use Rattle.lp_standard.specs.Schemes.{IsStandard}
use Rattle.lp_model.specs.Unify.{unit_limit}
use Rattle.lp_model.specs.Flat.{Clause, Clauses, Goals, Written, clause_list, formula_of_goals, formula_of_clauses}
use Rattle.lp_model.specs.Index.{instantiate}
use Rattle.lp_model.specs.Flatten.{ClauseFormula}
use Rattle.lp_model.specs.Pair.{Closing, closed}
use Rattle.lp_model.specs.Skeleton.{Note, Refuted, starts_within, inner}
use Rattle.lp_model.specs.Branch.{Answer}
use Rattle.lp_model.specs.Search.{look}
use Rattle.lp_model.specs.Answers.{Variable, Closes}
use Rattle.lp_model.specs.Proofs.{AreFlattened, Declared, Failure, IsFormula, IsSentence, Leaves, Stands, assumed, newest_first}
use Rattle.lp_proof_laws.specs.Open.{Fits}
use Rattle.lp_proof_laws.proofs.Uniform.Assumptions.{AreKept, Extends, extends_self}
use Rattle.lp_proof_laws.proofs.Uniform.Contexts.{get_front, get_back, get_split}
use Rattle.lp_proof_laws.proofs.Uniform.Formulas.{formula_eigens}
use Rattle.lp_proof_laws.proofs.Uniform.Openings.{fits_more}
use Rattle.lp_proof_laws.proofs.Uniform.Settings.{IsSetting}
use Rattle.lp_search_laws.specs.Holds.{IsTyped}
use Rattle.lp_search_laws.specs.Denials.{denied_branch, denied_task}
use Rattle.lp_search_laws.specs.Clauses.{sentence_of, assumed_at, clauses_at}
use Rattle.lp_search_laws.specs.Branches.{IsTypedBranch, no_query, denied_typing}
use Rattle.lp_search_laws.specs.Failed.{SameGoal, goal_converts, goal_flat, goal_back, goal_then, Order, InOrder, InAny, SameClauses, unchanged, in_some_order, converted, each_apart, clause_flat, program_flat, sentence_flat, other_way, one_by_one, failed_run, IsFailedSearch}
use Rattle.lp_search_laws.proofs.Formed.{formula_at}
use Rattle.lp_search_laws.proofs.Refuted.{ends_within, none_within, taken_within}

-- the same clauses
more_stand : (P R S : List ClauseFormula) → Stands P R → Stands (P ++ S) (R ++ S)
more_stand P R S h = record {
  at = λ i D e. elim (get_split P S i D e) [
    | inl a ↦ let g = h.at i D a in (g.0, get_front R S g.0 D g.1)
    | inr b ↦ (length R + b.0, get_back R S b.0 ∙ b.2)
  ];
}

-- the same clauses with more behind them, at more eigenconstants
pub formula_more : (d : Declared) (E F : List Ty) → Extends E F → (t : Term) → IsFormula d E t → IsFormula d F t
formula_more d E F x t f = transport (λ z. IsFormula d z t) (sym x.is) (formula_eigens d E x.rest t f)

pub fits_wider : (d : Declared) (E F : List Ty) → Extends E F → (Γ : List Ty) (θ : ℕ → Term) → Fits d E Γ θ → Fits d F Γ θ
fits_wider d E F x Γ θ f = transport (λ z. Fits d z Γ θ) (sym x.is) (fits_more d E x.rest Γ θ f)

behind_it : (P B A S : List ClauseFormula) → P ≡ B ++ A → P ++ S ≡ B ++ (A ++ S)
behind_it P B A S e = ap (λ X. X ++ S) e ∙ append_assoc B A S

behind_both : (P B M A S : List ClauseFormula) → P ≡ B ++ (M ++ A) → P ++ S ≡ B ++ (M ++ (A ++ S))
behind_both P B M A S e = behind_it P B (M ++ A) S e ∙ ap (λ X. B ++ X) (append_assoc M A S)

pub same_behind : (o : Order) (d : Declared) (C : List Clause) (E F : List Ty) → Extends E F → (P R S : List ClauseFormula) → SameClauses o d C E P R → SameClauses o d C F (P ++ S) (R ++ S)
same_behind o d C E F x P R S (unchanged e) = unchanged (ap (λ X. X ++ S) e)
same_behind o d C E F x P R S (in_some_order a s r) = in_some_order a (more_stand P R S s) (more_stand R P S r)
same_behind o d C E F x P R S (converted B A D K f g p q v) = converted B (A ++ S) D K (formula_more d E F x D f) (formula_more d E F x K g) (behind_it P B (assumed D ∷ A) S p) (behind_it R B (assumed K ∷ A) S q) v
same_behind o d C E F x P R S (each_apart B A c cs f p q) =
    each_apart B (A ++ S) c cs (formula_more d E F x (closed c (formula_of_clauses cs)) f) (behind_it P B (assumed (closed c (formula_of_clauses cs)) ∷ A) S p) (behind_both R B (assumed_at c (clause_list cs)) A S q)
same_behind o d C E F x P R S (clause_flat B A n bs t cs Γ θ v w e p q) =
    clause_flat B (A ++ S) n bs t cs Γ θ v (fits_wider d E F x Γ θ w) e (behind_it P B (assumed (instantiate θ t) ∷ A) S p) (behind_it R B (assumed (instantiate θ (formula_of_clauses cs)) ∷ A) S q)
same_behind o d C E F x P R S (program_flat G A k s e p q) = program_flat G (A ++ S) k s e (behind_it P G A S p) (behind_it R (map sentence_of C) A S q)
same_behind o d C E F x P R S (sentence_flat B A n D cs a s e p q) = sentence_flat B (A ++ S) n D cs a s e (behind_it P B (D ∷ A) S p) (behind_both R B (map sentence_of (clause_list cs)) A S q)
same_behind o d C E F x P R S (other_way h) = other_way (same_behind o d C E F x R P S h)
same_behind o d C E F x P R S (one_by_one Q h k) = one_by_one (Q ++ S) (same_behind o d C E F x P Q S h) (same_behind o d C E F x Q R S k)

-- leaves that stand for what is the same
pub record KeepsSame (o : Order) (C : List Clause) (L : Leaves) (d : Declared) : Type 0 where
  pub goals : (E : List Ty) (R : List ClauseFormula) (G H : Term) (f : Failure) → SameGoal d E G H → L E R G f → L E R H f
  pub clauses : (E : List Ty) (R S : List ClauseFormula) (G : Term) (f : Failure) → SameClauses o d C E R S → L E R G f → L E S G f

module _ {o : Order} {C : List Clause} {L : Leaves} (d : Declared) (alike : KeepsSame o C L d) where
  pub kept_so : (E : List Ty) (P R : List ClauseFormula) → SameClauses o d C E P R → AreKept L E P R
  kept_so E P R s S F x G f h = alike.clauses F (P ++ S) (R ++ S) G f (same_behind o d C E F x P R S s) h

  pub setting_of : IsStandard d → IsSetting L d
  setting_of std = record {
    standard = std;
    converting = λ Q. record {
      goals = λ E R G H f g g' v h. alike.goals E R G H f (goal_converts g g' v) h;
      assumptions = λ E A B f g v. kept_so E (Q ++ assumed A ∷ []) (Q ++ assumed B ∷ []) (converted Q [] A B f g refl refl v);
    };
    apart = λ E Q c cs f. kept_so E (Q ++ assumed (closed c (formula_of_clauses cs)) ∷ []) (Q ++ assumed_at c (clause_list cs)) (apart_here E Q c cs f);
    together = λ E Q c cs f. kept_so E (Q ++ assumed_at c (clause_list cs)) (Q ++ assumed (closed c (formula_of_clauses cs)) ∷ []) (other_way (apart_here E Q c cs f));
    flat_goals = λ n B t gs e E Γ θ v w R f. (
      (λ h. alike.goals E R (instantiate θ t) (instantiate θ (formula_of_goals gs)) f (goal_flat n B t gs Γ θ v w e refl refl) h),
      (λ h. alike.goals E R (instantiate θ (formula_of_goals gs)) (instantiate θ t) f (goal_back (goal_flat n B t gs Γ θ v w e refl refl)) h),
    );
    flat_clauses = λ n B t cs e E Γ θ v w Q.
        let s : SameClauses o d C E (Q ++ assumed (instantiate θ t) ∷ []) (Q ++ assumed (instantiate θ (formula_of_clauses cs)) ∷ []) = clause_flat Q [] n B t cs Γ θ v w e refl refl in (
          kept_so E (Q ++ assumed (instantiate θ t) ∷ []) (Q ++ assumed (instantiate θ (formula_of_clauses cs)) ∷ []) s,
          kept_so E (Q ++ assumed (instantiate θ (formula_of_clauses cs)) ∷ []) (Q ++ assumed (instantiate θ t) ∷ []) (other_way s),
        );
  }
    where
      apart_here : (E : List Ty) (Q : List ClauseFormula) (c : Closing) (cs : Clauses) → IsFormula d E (closed c (formula_of_clauses cs)) → SameClauses o d C E (Q ++ assumed (closed c (formula_of_clauses cs)) ∷ []) (Q ++ assumed_at c (clause_list cs))
      apart_here E Q c cs f = each_apart Q [] c cs f refl (ap (λ X. Q ++ X) (sym (append-nil (assumed_at c (clause_list cs)))))

-- sentences and their flattened clauses, in any order
program_apart : (d : Declared) (C : List Clause) (E : List Ty) (F : List ClauseFormula) (P : List Clause) → EachOf (IsSentence d) F → AreFlattened d F P → (B : List ClauseFormula) → SameClauses InAny d C E (B ++ F) (B ++ map sentence_of P)
program_apart d C E [] P s x B = transport (λ X. SameClauses InAny d C E (B ++ []) (B ++ map sentence_of X)) (sym x) (unchanged refl)
program_apart d C E (D ∷ F) P s x B =
    let cs = map sentence_of (clause_list x.1) in
    let R = map sentence_of x.2 in
    let e : map sentence_of P ≡ cs ++ R = ap (λ X. map sentence_of X) x.5 ∙ map-append sentence_of (clause_list x.1) x.2 in
    let one : SameClauses InAny d C E (B ++ D ∷ F) (B ++ (cs ++ F)) = sentence_flat B F x.0 D x.1 refl s.0 x.3 refl refl in
    let rest = program_apart d C E F x.2 s.1 x.4 (B ++ cs) in
    one_by_one (B ++ (cs ++ F)) one
    (transport (λ X. SameClauses InAny d C E (B ++ (cs ++ F)) (B ++ X)) (sym e) (transport (λ X. SameClauses InAny d C E X (B ++ (cs ++ R))) (append_assoc B cs F) (transport (SameClauses InAny d C E ((B ++ cs) ++ F)) (append_assoc B cs R) rest)))

pub program_kept : {L : Leaves} (d : Declared) (F : List ClauseFormula) (P : List Clause) → KeepsSame InAny P L d → EachOf (IsSentence d) F → AreFlattened d F P → AreKept L [] F (map sentence_of P) × AreKept L [] (map sentence_of P) F
program_kept d F P alike s x =
    let a = program_apart d P [] F P s x [] in
    (kept_so d alike [] F (map sentence_of P) a, kept_so d alike [] (map sentence_of P) F (other_way a))

-- in their order
pub program_in_order : {L : Leaves} (d : Declared) (F : List ClauseFormula) (P : List Clause) → KeepsSame (InOrder F) P L d → EachOf (IsSentence d) F → AreFlattened d F P → AreKept L [] F (map sentence_of P) × AreKept L [] (map sentence_of P) F
program_in_order d F P alike s x =
    let a : SameClauses (InOrder F) d P [] F (map sentence_of P) = program_flat F [] refl s x (sym (append-nil F)) (sym (append-nil (map sentence_of P))) in
    (kept_so d alike [] F (map sentence_of P) a, kept_so d alike [] (map sentence_of P) F (other_way a))

-- what is the same in that order is so in any
any_clauses : (o : Order) (d : Declared) (P : List Clause) (E : List Ty) (Q R : List ClauseFormula) → SameClauses o d P E Q R → SameClauses InAny d P E Q R
any_clauses o d P E Q R (unchanged e) = unchanged e
any_clauses o d P E Q R (in_some_order a s r) = in_some_order refl s r
any_clauses o d P E Q R (converted B A D K f g p q v) = converted B A D K f g p q v
any_clauses o d P E Q R (each_apart B A c cs f p q) = each_apart B A c cs f p q
any_clauses o d P E Q R (clause_flat B A n bs t cs Γ θ v w e p q) = clause_flat B A n bs t cs Γ θ v w e p q
any_clauses o d P E Q R (program_flat F A k s e p q) =
    transport (λ X. SameClauses InAny d P E X R) (sym p) (transport (SameClauses InAny d P E (F ++ A)) (sym q) (same_behind InAny d P E E (extends_self E) F (map sentence_of P) A (program_apart d P E F P s e [])))
any_clauses o d P E Q R (sentence_flat B A n D cs a s e p q) = sentence_flat B A n D cs refl s e p q
any_clauses o d P E Q R (other_way h) = other_way (any_clauses o d P E R Q h)
any_clauses o d P E Q R (one_by_one S h k) = one_by_one S (any_clauses o d P E Q S h) (any_clauses o d P E S R k)

pub any_order : (o : Order) (d : Declared) (P : List Clause) (E : List Ty) (R : List ClauseFormula) (G : Term) (f : Failure) → IsFailedSearch o d P E R G f → IsFailedSearch InAny d P E R G f
any_order o d P E R G f h = record { eigens = h.eigens; begins = h.begins; closing = h.closing; closes = h.closes; is_closed = h.is_closed; goal = h.goal; clauses = any_clauses o d P E _ R h.clauses; program = h.program; ends = h.ends; gives_none = h.gives_none }

-- failing searches, and those of which something holds that is said of the search and of the types of eigenconstants alone
pub failed_same : (o : Order) (d : Declared) (P : List Clause) → KeepsSame o P (IsFailedSearch o d P) d
failed_same o d P = record {
  goals = λ E R G H f v h. record { eigens = h.eigens; begins = h.begins; closing = h.closing; closes = h.closes; is_closed = h.is_closed; goal = goal_then G h.goal v; clauses = h.clauses; program = h.program; ends = h.ends; gives_none = h.gives_none };
  clauses = λ E R S G f s h. record { eigens = h.eigens; begins = h.begins; closing = h.closing; closes = h.closes; is_closed = h.is_closed; goal = h.goal; clauses = one_by_one R h.clauses s; program = h.program; ends = h.ends; gives_none = h.gives_none };
}

pub more_same : {o : Order} {C : List Clause} {L : Leaves} (d : Declared) → KeepsSame o C L d → (X : List Ty → Failure → Type 0) → KeepsSame o C (λ E R G f. L E R G f × X E f) d
more_same d alike X = record { goals = λ E R G H f v h. (alike.goals E R G H f v h.0, h.1); clauses = λ E R S G f s h. (alike.clauses E R S G f s h.0, h.1) }

itself : (x : ℕ) → x ≤ x
itself x = omega arith

longer : (n rows : ℕ) → n ≤ n + rows
longer n rows = omega arith

wider : (n rows : ℕ) → rows ≤ n + rows
wider n rows = omega arith

-- a refuted search
module _ (o : Order) (n : ℕ) (d : Declared) (P : List Clause) (V : List Variable) (E : List Ty) (next_type : ℕ) (gs : Goals) (css : List Clauses) (w : Written) (typed : IsTyped d E V (formula_of_goals gs) o_type)
    (begins : IsTypedBranch n d no_query (denied_typing V E gs) (denied_branch (length V) next_type gs (newest_first css) w (length E)))
    (steps j rows k p : ℕ) (ns : List Note) (is_final : Answer → Bool) (r : inner (look unit_limit n P) j is_final (starts_within rows (denied_task (length V) next_type gs (newest_first css) w (length E)) steps 1) ≡ Refuted k ns p) where
  pub leaf : Failure
  leaf = record { limit = steps + rows; looks = n; moves = j; variables = V; next_type = next_type; goals = gs; assumed = css; written = w; program = P }

  pub refuted_fails_so : (c : Closing) → Closes d V c → IsFailedSearch o d P (map (instance c.types) E) (clauses_at P (newest_first css) c) (closed c (formula_of_goals gs)) leaf
  unfolding leaf
  refuted_fails_so c cl =
      let f = formula_at d V c cl E (formula_of_goals gs) typed in
      record {
        eigens = E;
        begins = begins;
        closing = c;
        closes = cl;
        is_closed = refl;
        goal = goal_converts f f (same (closed c (formula_of_goals gs)));
        clauses = unchanged refl;
        program = refl;
        ends = ends_within P (denied_task (length V) next_type gs (newest_first css) w (length E)) steps n j rows k p ns is_final r unit_limit (steps + rows) (itself unit_limit) (longer steps rows) (wider steps rows);
        gives_none = none_within P (denied_task (length V) next_type gs (newest_first css) w (length E)) steps n j rows k p ns is_final r unit_limit (steps + rows) (itself unit_limit) (longer steps rows) (wider steps rows);
      }

  -- it takes as many steps as the search that was refuted
  pub refuted_steps : (failed_run (length E) leaf).steps ≡ k
  unfolding leaf
  refuted_steps = taken_within P (denied_task (length V) next_type gs (newest_first css) w (length E)) steps n j rows k p ns is_final r unit_limit (steps + rows) (itself unit_limit) (longer steps rows) (wider steps rows)
