-- What the words of a command ask for.
use Rattle.std.specs.Prelude.{◌≤ℤ◌, ◌+ℤ◌, ◌≤◌, pos, negsuc}
use Rattle.std.specs.Option.{option_copied}
use Rattle.feed_rows.specs.Limits.{most_rides, most_window}
use Rattle.commands.specs.Requests.{PlanRequest, PriceRequest, AuditRequest, GenRequest, Request}
use Rattle.commands.specs.Requests.{Question as Asked}
use Rattle.plan_words.specs.Rides.{rides_of, AreUsualRides}
use Rattle.plan_words.specs.declared.request.CommandWords.{CommandWords}
use Rattle.plan_words.specs.declared.request.CommandWords.TheVariants as command
use Rattle.plan_words.specs.declared.request.Question.{Question}
use Rattle.plan_words.specs.declared.request.Question.TheVariants as question
use Rattle.plan_words.specs.declared.request.AuditWords.{AuditWords}
use Rattle.plan_words.specs.declared.request.PlanWords.{PlanWords}
use Rattle.plan_words.specs.declared.request.PriceWords.{PriceWords}
use Rattle.plan_words.specs.declared.request.GenWords.{GenWords}

-- the request of a plan
abbrev pub request_of : PlanWords → PlanRequest
request_of plan =
    record {
      from = plan.from.now;
      to = plan.to.now;
      departure = plan.departure.0;
      rides = plan.rides;
      rider = option_copied plan.rider;
      window = plan.window;
      stats = plan.stats;
    }

-- the request of a price
abbrev pub price_request : PriceWords → PriceRequest
price_request price = record { rider = option_copied price.rider; rides = rides_of price.rides }

-- the request of an audit
abbrev pub audit_request : AuditWords → AuditRequest
audit_request audit = record { first = audit.first.0; last = audit.last.0; rider = option_copied audit.rider }

-- the request of a generated feed
abbrev pub gen_request : GenWords → GenRequest
gen_request gen = record { seed = gen.seed; lines = gen.lines }

-- what is asked about the feed of the folder
abbrev pub question_of : Question → Asked
question_of (question.Plan plan) = Asked.Plan (request_of plan)
question_of (question.Price price) = Asked.Price (price_request price)
question_of question.Check = Asked.Check
question_of (question.Audit audit) = Asked.Audit (audit_request audit)

-- the request
abbrev pub command_request : CommandWords → Request
command_request (command.Asks question) = Request.Asks (question_of question)
command_request (command.Gen gen) = Request.Gen (gen_request gen)

-- a plan that departs in the years 1900 to 2999, and arrives within three days
pub record IsUsualPlan (plan : PlanWords) : Type 0 where
  pub early : negsuc 2_208_988_799 ≤ℤ plan.departure.0
  pub late : plan.departure.0 ≤ℤ pos 32_503_680_000
  pub rides : plan.rides ≤ most_rides
  pub window : plan.window ≤ most_window

-- a feed of 2 to 32 lines, by a number of 16 bits
pub record IsUsualGen (gen : GenWords) : Type 0 where
  pub seed : gen.seed ≤ 65_535
  pub least : 2 ≤ gen.lines
  pub most : gen.lines ≤ 32

-- days from 1900 to 2999, of which the last is no earlier than the first, and at most 365 days later
pub record IsUsualAudit (audit : AuditWords) : Type 0 where
  pub low : negsuc 25_566 ≤ℤ audit.first.0
  pub high : audit.last.0 ≤ℤ pos 376_199
  pub ordered : audit.first.0 ≤ℤ audit.last.0
  pub near : audit.last.0 ≤ℤ (audit.first.0 +ℤ pos 365)

-- what is asked about the feed of the folder is such
abbrev pub IsUsualQuestion : Question → Type 0
IsUsualQuestion (question.Plan plan) = IsUsualPlan plan
IsUsualQuestion (question.Price price) = AreUsualRides price.rides
IsUsualQuestion question.Check = Unit {0}
IsUsualQuestion (question.Audit audit) = IsUsualAudit audit

-- what is asked for is such
abbrev pub IsUsualRequest : CommandWords → Type 0
IsUsualRequest (command.Asks question) = IsUsualQuestion question
IsUsualRequest (command.Gen gen) = IsUsualGen gen
