-- The clauses that are tried for a call, as the bindings read it: they are the ones that are tried for the goal as it stands.
use Rattle.std.proofs.Common.{◌≡◌, ℕ, List, [], ◌∷◌, ◌++◌, map, length, cond, refl, ap, ◌∙◌, Bool, true, false, nat_eq}
use Rattle.std.specs.Prelude.{filter, ◌&&◌}
use Rattle.std.proofs.lemmas.List.{length-map}
use Rattle.lp_calculus.specs.Spine.{arguments, head_of}
use Rattle.lp_calculus.specs.Term.{Term, index, atom, abs, app, constant, integer, text, eigen, logic, param}
use Rattle.lp_calculus.specs.Types.{instance}
use Rattle.lp_model.specs.Branch.{Branch, Entry, Task, Try}
use Rattle.lp_model.specs.Flat.{Clause, clause}
use Rattle.lp_model.specs.Pair.{Closing, closed}
use Rattle.lp_model.specs.Same.{same_name}
use Rattle.lp_model.specs.Search.{candidates, first_key, has_head, may_meet, passes}
use Rattle.lp_plain.specs.declared.candidates.Candidate.TheVariants as candidate
use Rattle.lp_plain.specs.Assuming.{Lists}
use Rattle.lp_plain.specs.Calling.{HaveHeads}
use Rattle.lp_plain.specs.Moving.{tries_under}
use Rattle.lp_plain.specs.Resuming.{clause_with}
use Rattle.lp_plain.specs.Trials.{IsCallHead}
use Rattle.lp_plain.specs.Trying.{AreCandidates, head_in}
use Rattle.lp_plain.proofs.HeadLooks.{head_closes}

-- names of heads
name_kept : (z : Closing) (a b : Term) → IsCallHead a → IsCallHead b → same_name (closed z a) (closed z b) ≡ same_name a b
name_kept z (atom (constant c ts)) (atom (constant d us)) h k = λ i. nat_eq c d && nat_eq (length-map ts (instance z.types) i) (length-map us (instance z.types) i)
name_kept z (atom (constant c ts)) (atom (eigen k)) h l = refl
name_kept z (atom (eigen j)) (atom (constant d us)) h k = refl
name_kept z (atom (eigen j)) (atom (eigen k)) h l = refl
name_kept z (index i) b h k = absurd h
name_kept z (atom (integer j)) b h k = absurd h
name_kept z (atom (text s)) b h k = absurd h
name_kept z (atom (logic x l)) b h k = absurd h
name_kept z (atom (param j t)) b h k = absurd h
name_kept z (abs s) b h k = absurd h
name_kept z (app f s) b h k = absurd h
name_kept z (atom (constant c ts)) (index i) h k = absurd k
name_kept z (atom (constant c ts)) (atom (integer j)) h k = absurd k
name_kept z (atom (constant c ts)) (atom (text s)) h k = absurd k
name_kept z (atom (constant c ts)) (atom (logic x l)) h k = absurd k
name_kept z (atom (constant c ts)) (atom (param j t)) h k = absurd k
name_kept z (atom (constant c ts)) (abs s) h k = absurd k
name_kept z (atom (constant c ts)) (app f s) h k = absurd k
name_kept z (atom (eigen n)) (index i) h k = absurd k
name_kept z (atom (eigen n)) (atom (integer j)) h k = absurd k
name_kept z (atom (eigen n)) (atom (text s)) h k = absurd k
name_kept z (atom (eigen n)) (atom (logic x l)) h k = absurd k
name_kept z (atom (eigen n)) (atom (param j t)) h k = absurd k
name_kept z (atom (eigen n)) (abs s) h k = absurd k
name_kept z (atom (eigen n)) (app f s) h k = absurd k

name_read : (z : Closing) (a b : Term) → IsCallHead b → same_name a (closed z b) ≡ same_name a b
name_read z a (index i) k = absurd k
name_read z a (atom (integer j)) k = absurd k
name_read z a (atom (text s)) k = absurd k
name_read z a (atom (logic x l)) k = absurd k
name_read z a (atom (param j t)) k = absurd k
name_read z a (abs s) k = absurd k
name_read z a (app f s) k = absurd k
name_read z a (atom (eigen n)) k = refl
name_read z (atom (constant c ts)) (atom (constant d us)) k = λ i. nat_eq c d && nat_eq (length ts) (length-map us (instance z.types) i)
name_read z (index i) (atom (constant d us)) k = refl
name_read z (atom (integer j)) (atom (constant d us)) k = refl
name_read z (atom (text s)) (atom (constant d us)) k = refl
name_read z (atom (eigen j)) (atom (constant d us)) k = refl
name_read z (atom (logic x l)) (atom (constant d us)) k = refl
name_read z (atom (param j t)) (atom (constant d us)) k = refl
name_read z (abs s) (atom (constant d us)) k = refl
name_read z (app f s) (atom (constant d us)) k = refl

module _ (z : Closing) (g : Term) (head : IsCallHead (head_of g)) where
  abbrev read : Clause → Clause
  read c = clause_with (closed z) (instance z.types) c

  head_kept : (c : Clause) → IsCallHead (head_in c) → has_head (closed z g) (read c) ≡ has_head g c
  head_kept (clause k vs h b) hd = (λ i. same_name (head_closes z h hd i) (head_closes z g head i)) ∙ name_kept z (head_of h) (head_of g) hd head

  both : (b : Bool) (c : Clause) (cs : List Clause) → cond b (read c ∷ map read cs) (map read cs) ≡ map read (cond b (c ∷ cs) cs)
  both true c cs = refl
  both false c cs = refl

  assumed_kept : (A : List Clause) → HaveHeads A → filter (has_head (closed z g)) (map read A) ≡ map read (filter (has_head g) A)
  assumed_kept [] h = refl
  assumed_kept (c ∷ A) h =
      let F = filter (has_head (closed z g)) (map read A) in
      ap (λ b. cond b (read c ∷ F) F) (head_kept c h.0) ∙ ap (λ l. cond (has_head g c) (read c ∷ l) l) (assumed_kept A h.1) ∙ both (has_head g c) c (filter (has_head g) A)

  module _ (key : first_key (arguments (closed z g)) ≡ first_key (arguments g)) where
    pass_kept : (c : Clause) → passes (closed z g) c ≡ passes g c
    pass_kept (clause k vs h b) =
        (λ i. same_name (head_of h) (head_closes z g head i) && may_meet (first_key (arguments h)) (key i)) ∙ ap (λ x. x && may_meet (first_key (arguments h)) (first_key (arguments g))) (name_read z (head_of h) (head_of g) head)

    program_kept : (P : List Clause) → filter (passes (closed z g)) P ≡ filter (passes g) P
    program_kept [] = refl
    program_kept (c ∷ P) =
        let F = filter (passes (closed z g)) P in
        ap (λ b. cond b (c ∷ F) F) (pass_kept c) ∙ ap (λ l. cond (passes g c) (c ∷ l) l) (program_kept P)

    pub candidates_kept : (P A : List Clause) → HaveHeads A → candidates P (map read A) (closed z g) ≡ map read (filter (has_head g) A) ++ filter (passes g) P
    candidates_kept P A h = λ i. assumed_kept A h i ++ program_kept P i

-- as tasks
module _ (z : Closing) (l : Lists) (t : Term) (e : Entry) (b : Branch) (k : ℕ) where
  abbrev try_of : Clause → Task
  try_of c = Try c t e b k

  program_tasks : (ks : List ℕ) (ps : List Clause) → AreCandidates l (map (λ i. candidate.Program i) ks) ps → tries_under z (map (λ i. candidate.Program i) ks) ps t e b k ≡ map try_of ps
  program_tasks [] [] h = refl
  program_tasks [] (p ∷ ps) h = absurd h
  program_tasks (i ∷ ks) [] h = absurd h
  program_tasks (i ∷ ks) (p ∷ ps) h = ap (λ ts. try_of p ∷ ts) (program_tasks ks ps h.1)

  pub all_tasks : (ns : List ℕ) (cs : List Clause) → AreCandidates l (map (λ i. candidate.Assumed i) ns) cs → (ks : List ℕ) (ps : List Clause) → AreCandidates l (map (λ i. candidate.Program i) ks) ps →
      tries_under z (map (λ i. candidate.Assumed i) ns ++ map (λ i. candidate.Program i) ks) (cs ++ ps) t e b k ≡ map try_of (map (clause_with (closed z) (instance z.types)) cs ++ ps)
  all_tasks [] [] h ks ps p = program_tasks ks ps p
  all_tasks [] (a ∷ cs) h ks ps p = absurd h
  all_tasks (n ∷ ns) [] h ks ps p = absurd h
  all_tasks (n ∷ ns) (a ∷ cs) h ks ps p = ap (λ ts. try_of (clause_with (closed z) (instance z.types) a) ∷ ts) (all_tasks ns cs h.1 ks ps p)
