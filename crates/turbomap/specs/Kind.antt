-- The names of the kinds of faults, as lines say them.
use Rattle.std.specs.Prelude.{ℕ, List, codes}
use Rattle.tm_sim.specs.declared.vectors.VectorKind.{VectorKind}
use Rattle.tm_sim.specs.declared.vectors.VectorKind.TheVariants.{Byte, Width}
use Rattle.blif_read.specs.declared.fault.BlifKind.{BlifKind}
use Rattle.blif_read.specs.declared.fault.BlifKind.TheVariants.{BadByte, LongName, UnknownWord, LeftOut, Misplaced, BadCount, TooManyPins, RepeatedDriver, RepeatedOutput, BadRow, MixedRows, BadType, BadInit, UnknownInit, ManyClocks, Undriven, GatedClock, ClockAsData, TooManySignals, Loop, BadBinding, RepeatedModel, NoModel, UnknownFormal, RepeatedFormal, Unbound, Recursion, TooDeep, TooLarge}
use Rattle.aiger_read.specs.declared.fault.AigerKind.{AigerKind}
use Rattle.aiger_read.specs.declared.fault.AigerKind.TheVariants as aiger
use Rattle.text_read.specs.declared.fault.TextKind.{TextKind}
use Rattle.text_read.specs.declared.fault.TextKind.TheVariants.{Blif, Aiger}
use Rattle.cert_text.specs.declared.fault.CertKind.{CertKind}
use Rattle.cert_text.specs.declared.fault.CertKind.TheVariants.{Version, Word, Number, Ending}
use Rattle.cert_check.specs.declared.verdict.Why.{Why}
use Rattle.cert_check.specs.declared.verdict.Why.TheVariants.{Lag, Leaves, Uncovered, Unserved, Output, Chain, Circuit, Order, TooFew, Path, Shared, Unfinished}

-- a kind is said by the name of its variant
abbrev pub kind_name : BlifKind → List ℕ
kind_name BadByte = codes "BadByte"
kind_name LongName = codes "LongName"
kind_name UnknownWord = codes "UnknownWord"
kind_name LeftOut = codes "LeftOut"
kind_name Misplaced = codes "Misplaced"
kind_name BadCount = codes "BadCount"
kind_name TooManyPins = codes "TooManyPins"
kind_name RepeatedDriver = codes "RepeatedDriver"
kind_name RepeatedOutput = codes "RepeatedOutput"
kind_name BadRow = codes "BadRow"
kind_name MixedRows = codes "MixedRows"
kind_name BadType = codes "BadType"
kind_name BadInit = codes "BadInit"
kind_name UnknownInit = codes "UnknownInit"
kind_name ManyClocks = codes "ManyClocks"
kind_name Undriven = codes "Undriven"
kind_name GatedClock = codes "GatedClock"
kind_name ClockAsData = codes "ClockAsData"
kind_name TooManySignals = codes "TooManySignals"
kind_name Loop = codes "Loop"
kind_name BadBinding = codes "BadBinding"
kind_name RepeatedModel = codes "RepeatedModel"
kind_name NoModel = codes "NoModel"
kind_name UnknownFormal = codes "UnknownFormal"
kind_name RepeatedFormal = codes "RepeatedFormal"
kind_name Unbound = codes "Unbound"
kind_name Recursion = codes "Recursion"
kind_name TooDeep = codes "TooDeep"
kind_name TooLarge = codes "TooLarge"

abbrev pub aiger_kind_name : AigerKind → List ℕ
aiger_kind_name aiger.BadHeader = codes "BadHeader"
aiger_kind_name aiger.LeftOut = codes "LeftOut"
aiger_kind_name aiger.Ending = codes "Ending"
aiger_kind_name aiger.BadLine = codes "BadLine"
aiger_kind_name aiger.BadLiteral = codes "BadLiteral"
aiger_kind_name aiger.Repeated = codes "Repeated"
aiger_kind_name aiger.BadReset = codes "BadReset"
aiger_kind_name aiger.UnknownInit = codes "UnknownInit"
aiger_kind_name aiger.BadSymbol = codes "BadSymbol"
aiger_kind_name aiger.Undriven = codes "Undriven"
aiger_kind_name aiger.TooManySignals = codes "TooManySignals"
aiger_kind_name aiger.Loop = codes "Loop"

-- a kind of BLIF or of AIGER is said by the name of the inner variant
abbrev pub text_kind_name : TextKind → List ℕ
text_kind_name (Blif kind) = kind_name kind
text_kind_name (Aiger kind) = aiger_kind_name kind

abbrev pub vector_kind_name : VectorKind → List ℕ
vector_kind_name Byte = codes "Byte"
vector_kind_name Width = codes "Width"

abbrev pub cert_kind_name : CertKind → List ℕ
cert_kind_name Version = codes "Version"
cert_kind_name Word = codes "Word"
cert_kind_name Number = codes "Number"
cert_kind_name Ending = codes "Ending"

-- why a certificate is not accepted is said in the same way
abbrev pub why_name : Why → List ℕ
why_name Lag = codes "Lag"
why_name Leaves = codes "Leaves"
why_name Uncovered = codes "Uncovered"
why_name Unserved = codes "Unserved"
why_name Output = codes "Output"
why_name Chain = codes "Chain"
why_name Circuit = codes "Circuit"
why_name Order = codes "Order"
why_name TooFew = codes "TooFew"
why_name Path = codes "Path"
why_name Shared = codes "Shared"
why_name Unfinished = codes "Unfinished"
