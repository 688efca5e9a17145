-- What becomes of the refusals of the crates below: limits and want of memory are those of the query.
use Rattle.lp_lexer.specs.declared.token.LexFault.{LexFault}
use Rattle.lp_lexer.specs.declared.token.LexFault.TheVariants as lex
use Rattle.lp_fixity.specs.declared.fault.FixFault.TheVariants as fix
use Rattle.lp_syntax.specs.declared.fault.SyntaxFault.{SyntaxFault}
use Rattle.lp_syntax.specs.declared.fault.SyntaxFault.TheVariants as syntax
use Rattle.lp_infer.specs.declared.fault.InferFault.{InferFault}
use Rattle.lp_infer.specs.declared.fault.InferFault.TheVariants as infer
use Rattle.lp_module.specs.declared.fault.ModuleFault.{ModuleFault}
use Rattle.lp_module.specs.declared.fault.ModuleFault.TheVariants as form
use Rattle.lp_normal.specs.declared.fault.NormalRefusal.{NormalRefusal}
use Rattle.lp_normal.specs.declared.fault.NormalRefusal.TheVariants as goals
use Rattle.lp_gen.specs.declared.fault.GenRefusal.{GenRefusal}
use Rattle.lp_gen.specs.declared.fault.GenRefusal.TheVariants as code
use Rattle.lp_answers.specs.declared.stopped.Stopped.{Stopped}
use Rattle.lp_answers.specs.declared.stopped.Stopped.TheVariants as stop
use Rattle.lp_query.specs.declared.fault.AskRefusal.{AskRefusal}
use Rattle.lp_query.specs.declared.fault.AskRefusal.TheVariants.{Lex, Syntax, Infer, Form, Limit, Write, Memory}

abbrev pub of_tokens : LexFault → AskRefusal
of_tokens lex.Memory = Memory
of_tokens f = Lex f

abbrev pub of_syntax : SyntaxFault → AskRefusal
of_syntax (syntax.Limit l) = Limit l
of_syntax syntax.Memory = Memory
of_syntax (syntax.Operator fix.Memory at) = Memory
of_syntax f = Syntax f

abbrev pub of_typing : InferFault → AskRefusal
of_typing infer.Memory = Memory
of_typing f = Infer f

abbrev pub of_form : ModuleFault → AskRefusal
of_form (form.Limit l) = Limit l
of_form form.Memory = Memory
of_form f = Form f

abbrev pub of_goals : NormalRefusal → AskRefusal
of_goals (goals.Limit l) = Limit l
of_goals goals.Memory = Memory

abbrev pub of_code : GenRefusal → AskRefusal
of_code (code.Limit l) = Limit l
of_code code.Memory = Memory

abbrev pub of_stop : Stopped → AskRefusal
of_stop stop.Write = Write
of_stop stop.Memory = Memory
