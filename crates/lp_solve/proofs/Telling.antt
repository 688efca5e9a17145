-- What was written of a search so far, and at its end.
use Rattle.std.proofs.Common.{◌≡◌, ◌≢◌, ℕ, suc, List, [], ◌∷◌, ◌++◌, length, map, Option, refl, sym, ap, ◌∙◌, subst, inl, inr}
use Rattle.std.specs.Prelude.{IfOk, Result, Ok, Err, Vec}
use Rattle.std.specs.Global.{Global}
use Rattle.lp_base.specs.Written.{Appends, AppendsPrefix}
use Rattle.lp_base.specs.declared.memory.Memory.{Memory as Want}
use Rattle.lp_base.specs.declared.status.Status.{Status}
use Rattle.lp_base.specs.declared.status.Status.TheVariants as variant
use Rattle.lp_lemmas.proofs.Lists.{length_push_suc}
use Rattle.lp_model.specs.Shown.{Entry}
use Rattle.lp_model.specs.Whole as whole
use Rattle.lp_model.specs.declared.answer.Answer.{Answer}
use Rattle.lp_model.specs.declared.answer.Event.{Event}
use Rattle.lp_model.specs.declared.ending.Ending.{Ending}
use Rattle.lp_plain.specs.Held.{constants_of, ended, variables_of}
use Rattle.lp_plain.specs.declared.search.Search.{Search}
use Rattle.lp_lines.specs.Ends.{Grows}
use Rattle.lp_lines.specs.Lines.{ending_line, ending_status, memory_line}
use Rattle.lp_lines.proofs.Appending.{appends_nothing, appends_both, prefix_behind, prefix_grows, prefix_longer}
use Rattle.lp_lines.proofs.Statuses.{is_fault}
use Rattle.lp_solve.specs.Written.{AreLines, IsLines}
use Rattle.lp_solve.specs.inner.Events.{Ends, Follows, IsPiece, IsTold, Tells, no_answer, one_answer, plain}
use Rattle.lp_watch.specs.Crowd.{Place}
use Rattle.lp_solve.specs.inner.Heard.{HearsOf, IsNext}
use Rattle.lp_solve.specs.inner.Searched.{BeginsLast, BeginsSearch, WritesLast, WritesSearch, an_ending, no_memory}
use Rattle.lp_solve.proofs.Lines.{told_more}
use Rattle.lp_solve.specs.declared.piece.Piece.{Piece}
use Rattle.lp_solve.specs.declared.piece.Piece.TheVariants as piece

-- one event
pub next_by : (old new : Search) (u v : List Place) (r : Result Event Want) → variables_of new ≡ variables_of old → constants_of new ≡ constants_of old → IfOk r (whole.IsTold (variables_of old)) →
    IfOk r (λ e. Follows old e new) → IfOk r (λ e. whole.Keeps e (ended new)) → IfOk r (λ e. HearsOf old e u v) → IfOk r (λ e. IsNext old e new u v)
next_by old new u v (Ok x) s c t f k h = record { told = record { variables = s; told = t; search = f }; heard = h; going = k; constants = c }
next_by old new u v (Err e) s c t f k h = tt

-- the search keeps the number of its variables
pub told_variables : (first now : Search) (answers : List Answer) → Tells first answers now → variables_of now ≡ variables_of first
told_variables first now answers no_answer = refl
told_variables first now answers (one_answer before all s t a more is e) = is.variables ∙ told_variables first s before more

module _ (es : List Entry) (ns : List (List ℕ)) (first : Search) where
  -- the answers so far, with the search behind them
  pub record SoFar (now : Search) (count : ℕ) (old new : Option (List ℕ)) : Type 0 where
    pub answers : List Answer
    pub lines : List ℕ
    pub told : Tells first answers now
    pub are : AreLines es ns 1 (map plain answers) lines
    pub number : length answers ≡ count
    pub appended : Appends old new lines

  pub none_so_far : (o : Option (List ℕ)) → SoFar first 0 o o
  none_so_far o = record { answers = []; lines = []; told = no_answer; are = refl; number = refl; appended = appends_nothing o }

  pub one_so_far : (s t : Search) (k number : ℕ) (a b c : Option (List ℕ)) (p : Piece) (lines : Vec ℕ Global) → SoFar s k a b → number ≡ suc k → p ≡
      piece.Answer lines → IsPiece es ns number s p t → Appends b c lines.items → SoFar t number a c
  one_so_far s t k number a b c p lines h e is told more =
      let x = subst (λ p. IsPiece es ns number s p t) is told in
      let numbered : number ≡ suc (length h.answers) = e ∙ ap suc (sym h.number) in
      record {
        answers = h.answers ++ x.0 ∷ [];
        lines = h.lines ++ lines.items;
        told = one_answer h.answers _ s t x.0 h.told x.1 refl;
        are = told_more es ns h.answers x.0 h.lines lines.items h.are (subst (λ n. IsLines es ns n (plain x.0) lines.items) numbered x.2);
        number = length_push_suc h.answers x.0 ∙ sym numbered;
        appended = appends_both a b c h.lines lines.items h.appended more;
      }

  -- the lines of an answer could not be written
  pub cut_in_answer : (s t : Search) (k number : ℕ) (a b c : Option (List ℕ)) (p : Piece) (lines : Vec ℕ Global) (may : Ending → List ℕ → Type 0) → SoFar s k a b →
      number ≡ suc k → p ≡ piece.Answer lines → IsPiece es ns number s p t → AppendsPrefix b c lines.items → BeginsSearch es ns may first a c
  cut_in_answer s t k number a b c p lines may h e is told more =
      let x = subst (λ p. IsPiece es ns number s p t) is told in
      let numbered : number ≡ suc (length h.answers) = e ∙ ap suc (sym h.number) in
      record {
        status = variant.Memory;
        text = (h.lines ++ lines.items) ++ memory_line;
        is = record {
          lines = h.lines ++ lines.items;
          last = memory_line;
          answers = record {
            answers = h.answers ++ x.0 ∷ [];
            now = t;
            told = one_answer h.answers _ s t x.0 h.told x.1 refl;
            lines = told_more es ns h.answers x.0 h.lines lines.items h.are (subst (λ n. IsLines es ns n (plain x.0) lines.items) numbered x.2);
          };
          is_last = no_memory refl refl;
          wrote = refl;
        };
        appended = prefix_longer a c (h.lines ++ lines.items) memory_line (prefix_behind a b c h.lines lines.items h.appended more);
      }

  -- the last line
  pub searched_whole : (s : Search) (k : ℕ) (a b c : Option (List ℕ)) (may : Ending → List ℕ → Type 0) (status : Status) → SoFar s k a b → WritesLast ns may s
      status b c → WritesSearch es ns may first status a c
  searched_whole s k a b c may status h w = record {
    text = h.lines ++ w.text;
    is = record { lines = h.lines; last = w.text; answers = record { answers = h.answers; now = s; told = h.told; lines = h.are }; is_last = w.is; wrote = refl };
    appended = appends_both a b c h.lines w.text h.appended w.appended;
  }

  pub searched_part : (s : Search) (k : ℕ) (a b c : Option (List ℕ)) (may : Ending → List ℕ → Type 0) → SoFar s k a b → BeginsLast ns may s b c → BeginsSearch es ns may first a c
  searched_part s k a b c may h w = record {
    status = w.status;
    text = h.lines ++ w.text;
    is = record { lines = h.lines; last = w.text; answers = record { answers = h.answers; now = s; told = h.told; lines = h.are }; is_last = w.is; wrote = refl };
    appended = prefix_behind a b c h.lines w.text h.appended w.appended;
  }

-- that memory ran out, as the last line
module _ (ns : List (List ℕ)) (may : Ending → List ℕ → Type 0) (s : Search) (status : Status) (a b : Option (List ℕ)) where
  pub lacked : (status ≢ variant.WriteFault → (status ≡ variant.Memory) × Appends a b memory_line) → status ≢ variant.WriteFault → WritesLast ns may s status a b
  lacked h n = let k = h n in record { text = memory_line; is = no_memory k.0 refl; appended = k.1 }

  pub lacked_part : (status ≡ variant.WriteFault → AppendsPrefix a b memory_line) → status ≡ variant.WriteFault → BeginsLast ns may s a b
  lacked_part h e = record { status = variant.Memory; text = memory_line; is = no_memory refl refl; appended = h e }

  -- and that of an ending
  pub ended_whole : (e : Ending) (text : List ℕ) → Ends ns s e → (reports : List ℕ) × may e reports × (text ≡ ending_line e ++ reports) →
      (status ≢ variant.WriteFault → (status ≡ ending_status e) × Appends a b text) →
      status ≢ variant.WriteFault → WritesLast ns may s status a b
  ended_whole e text ends (reports, allowed, is) h n = let k = h n in record { text = text; is = an_ending e reports ends allowed k.0 is; appended = k.1 }

  pub ended_part : (e : Ending) (text : List ℕ) → Ends ns s e → (reports : List ℕ) × may e reports × (text ≡ ending_line e ++ reports) →
      (status ≡ variant.WriteFault → AppendsPrefix a b text) →
      status ≡ variant.WriteFault → BeginsLast ns may s a b
  ended_part e text ends (reports, allowed, is) h f = record { status = ending_status e; text = text; is = an_ending e reports ends allowed refl is; appended = h f }

-- something was written
pub search_written : (es : List Entry) (ns : List (List ℕ)) (may : Ending → List ℕ → Type 0) (first : Search) (status : Status) (a b : Option (List ℕ)) →
    (status ≢ variant.WriteFault → WritesSearch es ns may first status a b) →
    (status ≡ variant.WriteFault → BeginsSearch es ns may first a b) → Grows a b
search_written es ns may first status a b w p = elim (is_fault status) [ inl f ↦ let q = p f in prefix_grows a b q.text q.appended | inr n ↦ let q = w n in (q.text, q.appended) ]
