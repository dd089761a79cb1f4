-- What the exported answer says, in document 01's numbers.
use Rattle.model.specs.Call.{Answer as Answers}
use Rattle.pitavele_c.specs.declared.Answer.{Answer}

abbrev pub reported : Answer → Answers
reported a = record { refusal = a.refusal; kept = a.count; length = a.length }
