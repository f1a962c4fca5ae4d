-- The limits of a task (document 01, "The job sheet"), stated here and nowhere else in the definitions. Assumes
-- nothing.
use Rattle.sheet.specs.declared.limits.Limits.{Limits}

abbrev pub limits : Limits
limits = record { words = 8192; variables = 64; actions = 1024; values = 256; cost = 1000000 }
