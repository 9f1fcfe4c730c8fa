-- The requests of a list before its first close, and what was read of each.
use Rattle.std.specs.Prelude.{List, Option, Some, None}
use Rattle.lrc_code.specs.declared.places.Place.{Place}
use Rattle.lrc_code.specs.Lists.{requests_before_close}
use Rattle.farm_lists.specs.Listed.{ListedRequest}
use Rattle.farm_lists.specs.declared.listing.Record.{Record}
use Rattle.farm_lists.specs.declared.listing.Record.TheVariants as rec
use Rattle.farm_lists.specs.declared.requests.ReadRequest.{ReadRequest}

-- the request that a record lists
abbrev pub listed_by : Record → Option ListedRequest
listed_by (rec.Rebuild r) = Some r
listed_by rec.Close = None

-- the requests before the first close
abbrev pub listed_before_close : List Record → List ListedRequest
listed_before_close list = requests_before_close listed_by list

-- a request as listed whose survivors were read, and those of them that were left out
pub record RequestRead : Type 0 where
  pub listed : ListedRequest
  pub unread : List Place

-- such a request without where its parts lie in memory
abbrev pub read_of : ReadRequest → RequestRead
read_of r = record { listed = r.listed.now; unread = r.unread.items }
