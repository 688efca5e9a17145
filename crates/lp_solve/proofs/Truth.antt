-- What is written of a query is right: it is what the definition's search tells, and that is right.
use Rattle.std.proofs.Common.{◌≡◌, ◌⊎◌, ℕ, zero, suc, List, [], ◌∷◌, ◌++◌, map, length, Option, Some, Bool, refl, sym, ap, ◌∙◌, subst, inl, inr, append-nil}
use Rattle.std.specs.Prelude.{true, false, nat_eq}
use Rattle.std.proofs.lemmas.List.{length-map}
use Rattle.lp_base.specs.Held.{Held}
use Rattle.lp_base.specs.declared.status.Status.{Status}
use Rattle.lp_lemmas.specs.Each.{AnyOf, EachOf}
use Rattle.lp_model.specs.Answers.{Instance, IsClosedInstance, IsInstance, IsWellFormed, Query, TypedAnswer}
use Rattle.lp_model.specs.Branch.{Answer}
use Rattle.lp_model.specs.Flat.{Clause, Goals}
use Rattle.lp_model.specs.Flatten.{ClauseFormula}
use Rattle.lp_model.specs.Proofs.{Declared, Leaves}
use Rattle.lp_model.specs.Search.{start}
use Rattle.lp_model.specs.Shown.{Entry}
use Rattle.lp_model.specs.Skeleton.{Told}
use Rattle.lp_model.specs.declared.ending.Ending.{Ending}
use Rattle.lp_model.specs.declared.ending.Ending.TheVariants.{NoMore, NoMoreCut, Enough, Steps, Flexible, Arithmetic, OpenNot, Deep}
use Rattle.lp_model.specs.declared.ending.Fault.TheVariants.{Overflow, ZeroDivisor, NotClosed}
use Rattle.lp_search_laws.specs.Failed.{InAny, IsFailedSearch}
use Rattle.lp_search_laws.specs.Given.{IsGiven}
use Rattle.lp_search_laws.specs.Right.{IsRightBy}
use Rattle.lp_search_laws.specs.Started.{IsProvableBy}
use Rattle.lp_search_laws.proofs.Comes.{search_comes}
use Rattle.lp_search_laws.proofs.Exhausted.{right_by_failing}
use Rattle.lp_lines.specs.Lines.{ending_line, fault_line, memory_line}
use Rattle.lp_solve.specs.Queries.{IsExact, IsFlat, IsQuery, first_state, told_by}
use Rattle.lp_solve.specs.Right.{IsTrue}
use Rattle.lp_solve.specs.Sources.{query_of, source_clauses}
use Rattle.lp_solve.specs.Written.{AreLines, IsBegun, IsEnd, IsLast, IsWritten, an_ending, as_told, no_memory, too_deep, too_large}
use Rattle.lp_solve.proofs.Texts.Program.{program_typed}
use Rattle.lp_solve.proofs.Texts.Query.{query_typed}

-- lists in two parts
record Parts (ts : List TypedAnswer) (xs ys : List Answer) : Type 0 where
  front : List TypedAnswer
  behind : List TypedAnswer
  both : ts ≡ front ++ behind
  are_front : map (λ a. a.answer) front ≡ xs
  are_behind : map (λ a. a.answer) behind ≡ ys

abbrev first_or : Answer → List Answer → Answer
first_or a [] = a
first_or a (x ∷ xs) = x

abbrev rest_of : List Answer → List Answer
rest_of [] = []
rest_of (x ∷ xs) = xs

parts : (ts : List TypedAnswer) (xs ys : List Answer) → map (λ a. a.answer) ts ≡ xs ++ ys → Parts ts xs ys
parts ts [] ys e = record { front = []; behind = ts; both = refl; are_front = refl; are_behind = e }
parts [] (x ∷ xs) ys e = absurd (cc)
parts (t ∷ ts) (x ∷ xs) ys e =
    let one : t.answer ≡ x = ap (first_or x) e in
    let p = parts ts xs ys (ap rest_of e) in
    record {
      front = t ∷ p.front;
      behind = p.behind;
      both = ap (λ zs. t ∷ zs) p.both;
      are_front = ap (λ z. z ∷ map (λ a. a.answer) p.front) one ∙ ap (λ zs. x ∷ zs) p.are_front;
      are_behind = p.are_behind;
    }

each_front : (Q : TypedAnswer → Type 0) (xs ys : List TypedAnswer) → EachOf Q (xs ++ ys) → EachOf Q xs
each_front Q [] ys h = tt
each_front Q (x ∷ xs) ys (one, more) = (one, each_front Q xs ys more)

none_mapped : (ts : List TypedAnswer) → map (λ a. a.answer) ts ≡ [] → ts ≡ []
none_mapped [] e = refl
none_mapped (t ∷ ts) e = absurd (cc)

-- the bytes that tell `no more answers` from every other last line
abbrev byte : ℕ → List ℕ → ℕ
byte k [] = 0
byte zero (x ∷ xs) = x
byte (suc k) (x ∷ xs) = byte k xs

no_such : true ≡ false → ⊥
no_such h = cc

line_tells : (e : Ending) (a b : List ℕ) → ending_line e ++ a ≡ ending_line NoMore ++ b → e ≡ NoMore
unfolding ending_line fault_line
line_tells NoMore a b h = refl
line_tells NoMoreCut a b h = absurd (no_such (sym (ap (λ xs. nat_eq (byte 15 xs) 10) h)))
line_tells Enough a b h = absurd (no_such (sym (ap (λ xs. nat_eq (byte 0 xs) 110) h)))
line_tells Steps a b h = absurd (no_such (sym (ap (λ xs. nat_eq (byte 0 xs) 110) h)))
line_tells Flexible a b h = absurd (no_such (sym (ap (λ xs. nat_eq (byte 0 xs) 110) h)))
line_tells (Arithmetic Overflow) a b h = absurd (no_such (sym (ap (λ xs. nat_eq (byte 0 xs) 110) h)))
line_tells (Arithmetic ZeroDivisor) a b h = absurd (no_such (sym (ap (λ xs. nat_eq (byte 0 xs) 110) h)))
line_tells (Arithmetic NotClosed) a b h = absurd (no_such (sym (ap (λ xs. nat_eq (byte 0 xs) 110) h)))
line_tells OpenNot a b h = absurd (no_such (sym (ap (λ xs. nat_eq (byte 0 xs) 110) h)))
line_tells Deep a b h = absurd (no_such (sym (ap (λ xs. nat_eq (byte 0 xs) 110) h)))

memory_tells : (b : List ℕ) → memory_line ≡ ending_line NoMore ++ b → ⊥
unfolding ending_line memory_line
memory_tells b h = no_such (sym (ap (λ xs. nat_eq (byte 0 xs) 110) h))

module _ {exact : Type 0} {ns : List (List ℕ)} {left : List Answer} {ending : Option Ending} where
  no_more : (e : Ending) → IsEnd exact ns left ending e → e ≡ NoMore → (left ≡ []) × (ending ≡ Some NoMore)
  no_more o (as_told e none is) same = (none, is ∙ ap Some same)
  no_more o (too_large a more is c) same = absurd (cc)
  no_more o (too_deep f) same = absurd (cc)

  tells_no_more : (may : Ending → List ℕ → Type 0) (status : Status) (last reports : List ℕ) → IsLast exact ns may left ending status last → last ≡ ending_line
      NoMore ++ reports → (left ≡ []) × (ending ≡ Some NoMore)
  tells_no_more may status last reports (an_ending e behind end allowed st is) h = no_more e end (line_tells e behind reports (sym is ∙ h))
  tells_no_more may status last reports (no_memory st is) h = absurd (memory_tells reports (sym is ∙ h))

-- a search that is right, and what is written of it
true_by : (L : Leaves) (G : TypedAnswer → Type 0) (d : Declared) (F : List ClauseFormula) (q : Query) (es : List Entry) (ns : List (List ℕ))
    (may : Ending → List ℕ → Type 0) (exact : ℕ → Type 0) (status : Status) (text : List ℕ) (t : Told Answer) →
    IsRightBy L G d F q t → IsWritten exact es ns may t status text → IsTrue L d F q es ns text
true_by L G d F q es ns may exact status text t right w =
    let p = parts right.typed w.shown w.left (right.is ∙ w.answers) in
    record {
      answers = p.front;
      lines = w.lines;
      last = w.last;
      wrote = w.wrote;
      are_lines = subst (λ xs. AreLines es ns 1 xs w.lines) (sym p.are_front) w.are_lines;
      well_formed = each_front (λ a. IsWellFormed d q a.typing a.answer) p.front p.behind (subst (EachOf (λ a. IsWellFormed d q a.typing a.answer)) p.both right.well_formed);
      sound = each_front (λ a. (i : Instance) → IsClosedInstance d a.typing a.answer i → IsProvableBy L d F q i) p.front p.behind
          (subst (EachOf (λ a. (i : Instance) → IsClosedInstance d a.typing a.answer i → IsProvableBy L d F q i)) p.both right.sound);
      exhausts = λ reports told i proved.
          let over = tells_no_more may status w.last reports w.is_last told in
          let alone : p.behind ≡ [] = none_mapped p.behind (p.are_behind ∙ over.0) in
          subst (AnyOf (λ a. IsInstance d a.typing a.answer i)) (p.both ∙ ap (λ zs. p.front ++ zs) alone ∙ append-nil p.front) (right.exhausts over.1 i proved);
    }

pub truth : {told : Option Held} {name query : List ℕ} (q : IsQuery told name query) (es : List Entry) (ns : List (List ℕ)) (may : Told Answer → Ending → List ℕ → Type 0)
    (steps answers : ℕ) (status : Status) (text : List ℕ) (d : Declared) (P : List Clause) (gs : Goals) →
    IsFlat q d P gs → ((n j m : ℕ) → IsWritten (IsExact P n (first_state q gs steps answers)) es ns (may (told_by P n j m (first_state q gs steps answers)))
    (told_by P n j m (first_state q gs steps answers)) status text ⊎ IsBegun es ns (told_by P n j m (first_state q gs steps answers)) text) →
    IsTrue (IsFailedSearch InAny d P) d (source_clauses q.loaded.program) (query_of q.bank q.typed) es ns text
truth {query = query} q es ns may steps answers status text d P gs f written =
    let F = source_clauses q.loaded.program in
    let std = f.types.standard in
    let asked = query_of q.bank q.typed in
    let sentences = program_typed q.loaded.sources q.built q.loaded.program d f.types in
    let typed = query_typed d std q.built.signature f.types.queries query q.asked.raw.term q.bank q.typed q.asked.typed in
    let comes = search_comes d std f.depth F P sentences f.clauses asked gs typed f.goals steps answers in
    let n = comes.1.enough in
    let same : start asked.type_vars (length asked.vars) gs steps answers ≡ first_state q gs steps answers = ap (λ k. start q.typed.type_vars k gs steps answers) (length-map q.typed.vars.items _) in
    let right = subst (λ s. IsRightBy (IsFailedSearch InAny d P) (IsGiven n d P asked gs) d F asked (told_by P n n n s)) same
    (right_by_failing d std f.depth F P sentences f.clauses asked gs typed f.goals n n n steps answers) in
    let over : (told_by P n n n (first_state q gs steps answers)).ending ≡ Some comes.1.ending =
    ap (λ s. (told_by P n n n s).ending) (sym same) ∙ ap (λ (t : Told Answer). t.ending) comes.1.tells ∙ comes.1.ends in
    elim (written n n n) [
      | inl w ↦ true_by (IsFailedSearch InAny d P) (IsGiven n d P asked gs) d F asked es ns (may (told_by P n n n (first_state q gs steps answers))) (IsExact P n (first_state q gs steps answers))
          status text (told_by P n n n (first_state q gs steps answers)) right w
      | inr b ↦ absurd (let no = sym b.lasts ∙ over in cc)
    ]
