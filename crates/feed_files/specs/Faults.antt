-- The kinds of faults: their numbers and names, as they are printed.
use Rattle.std.specs.Prelude.{ℕ, List, codes}
use Rattle.feed_files.specs.declared.faults.FaultKind.{FaultKind}
use Rattle.feed_files.specs.declared.faults.FaultKind.TheVariants as kind

-- a fault's number
abbrev pub fault_number : FaultKind → ℕ
fault_number kind.MissingFile = 1
fault_number kind.FileTooLarge = 2
fault_number kind.NotUtf8 = 3
fault_number kind.TooManyRows = 4
fault_number kind.MissingColumn = 5
fault_number kind.DoubledColumn = 6
fault_number kind.LongRow = 7
fault_number kind.EmptyRequired = 8
fault_number kind.BadNumber = 9
fault_number kind.BadTime = 10
fault_number kind.BadDate = 11
fault_number kind.BadAmount = 12
fault_number kind.BadCurrency = 13
fault_number kind.MixedCurrency = 14
fault_number kind.DoubledKey = 15
fault_number kind.UnknownReference = 16
fault_number kind.BadParent = 17
fault_number kind.WrongStopKind = 18
fault_number kind.TimesDecrease = 19
fault_number kind.EndTimeMissing = 20
fault_number kind.TimeframeFault = 21
fault_number kind.TransferFields = 22
fault_number kind.ForbiddenTogether = 23
fault_number kind.BadText = 24
fault_number kind.FlexRow = 25
fault_number kind.DatesReversed = 26
fault_number kind.JoinStops = 27

-- a fault's name
abbrev pub fault_text : FaultKind → List ℕ
fault_text kind.MissingFile = codes "MissingFile"
fault_text kind.FileTooLarge = codes "FileTooLarge"
fault_text kind.NotUtf8 = codes "NotUtf8"
fault_text kind.TooManyRows = codes "TooManyRows"
fault_text kind.MissingColumn = codes "MissingColumn"
fault_text kind.DoubledColumn = codes "DoubledColumn"
fault_text kind.LongRow = codes "LongRow"
fault_text kind.EmptyRequired = codes "EmptyRequired"
fault_text kind.BadNumber = codes "BadNumber"
fault_text kind.BadTime = codes "BadTime"
fault_text kind.BadDate = codes "BadDate"
fault_text kind.BadAmount = codes "BadAmount"
fault_text kind.BadCurrency = codes "BadCurrency"
fault_text kind.MixedCurrency = codes "MixedCurrency"
fault_text kind.DoubledKey = codes "DoubledKey"
fault_text kind.UnknownReference = codes "UnknownReference"
fault_text kind.BadParent = codes "BadParent"
fault_text kind.WrongStopKind = codes "WrongStopKind"
fault_text kind.TimesDecrease = codes "TimesDecrease"
fault_text kind.EndTimeMissing = codes "EndTimeMissing"
fault_text kind.TimeframeFault = codes "TimeframeFault"
fault_text kind.TransferFields = codes "TransferFields"
fault_text kind.ForbiddenTogether = codes "ForbiddenTogether"
fault_text kind.BadText = codes "BadText"
fault_text kind.FlexRow = codes "FlexRow"
fault_text kind.DatesReversed = codes "DatesReversed"
fault_text kind.JoinStops = codes "JoinStops"
