-- The tables of words: kinds of goals, operators, and constructs.
use Rattle.std.specs.Prelude.{List, [], ◌∷◌}
use Rattle.pyn_base.specs.declared.construct.Construct.{Construct}
use Rattle.pyn_base.specs.declared.construct.Construct.TheVariants as c
use Rattle.report_model.specs.declared.lines.ShownKind.{ShownKind}
use Rattle.report_model.specs.declared.lines.ShownKind.TheVariants as kind
use Rattle.report_model.specs.declared.mutant.Operator.{Operator}
use Rattle.report_model.specs.declared.mutant.Operator.TheVariants as op

abbrev pub kinds : List ShownKind
kinds = kind.Entry ∷ kind.True ∷ kind.False ∷ kind.Reached ∷ []

abbrev pub operators : List Operator
operators = op.Aod ∷ op.Aor ∷ op.Asr ∷ op.Bcr ∷ op.Coi ∷ op.Crp ∷ op.Ehd ∷ op.Exs ∷ op.Lcr ∷ op.Ror ∷ []

-- every construct, also those by which no run stops
abbrev pub constructs : List Construct
constructs =
    c.Encoding ∷ c.Tab ∷ c.String ∷ c.Escape ∷ c.StringPrefix ∷ c.Number ∷ c.IntegerRange ∷ c.Bracket ∷ c.Nesting ∷ c.Backslash ∷
    c.Character ∷ c.Indent ∷ c.NestedDef ∷ c.NestedClass ∷ c.Lambda ∷ c.Async ∷ c.Await ∷ c.Yield ∷ c.Global ∷ c.Nonlocal ∷
    c.Import ∷ c.From ∷ c.With ∷ c.Comprehension ∷ c.Walrus ∷ c.AtSign ∷ c.Division ∷ c.Power ∷ c.BitOperator ∷ c.Ellipsis ∷
    c.Syntax ∷ c.TooManyFunctions ∷ c.ModuleState ∷ c.ModuleStatement ∷ c.ClassStatement ∷ c.DuplicateName ∷ c.SpecialMethod ∷
    c.SpecialName ∷ c.PrivateName ∷ c.UnknownBase ∷ c.BaseChain ∷ c.Parameters ∷ c.MutableDefault ∷ c.Default ∷ c.Annotation ∷
    c.ClassScope ∷ c.TypingName ∷ c.BreakOutsideLoop ∷ c.BareRaise ∷ c.ExceptionName ∷ c.Super ∷ c.Arguments ∷ c.UnknownName ∷
    c.BuiltinValue ∷ c.CallDepth ∷ c.KeywordArgument ∷ c.MethodValue ∷ c.ExceptionAttribute ∷ c.FunctionAttribute ∷
    c.ClassAttribute ∷ c.View ∷ c.SuperOfAClass ∷ c.ExceptionText ∷ c.DictChanged ∷ c.TupleDepth ∷ c.MachineSize ∷
    c.StringFormat ∷ c.Identity ∷ c.SubscriptOfAClass ∷ c.ComparisonDepth ∷ c.UnhashableKey ∷ c.Argument ∷ c.StrOf ∷
    c.NonAsciiText ∷ c.Method ∷ c.Header ∷ c.TestName ∷ c.Form ∷ c.TooLong ∷ c.Report ∷ []
