-- What the faults print.
use Rattle.std.specs.Prelude.{ℕ, List, codes}
use Rattle.sheets_http.specs.declared.request.HeadFault.{HeadFault}
use Rattle.sheets_http.specs.declared.request.HeadFault.TheVariants.{HeadLong, BadHead, NoLength, BodyLong}
use Rattle.sheets_http.specs.declared.routes.RouteFault.{RouteFault}
use Rattle.sheets_http.specs.declared.routes.RouteFault.TheVariants as route
use Rattle.sheets_http.specs.declared.outside.SinkFault.{SinkFault}
use Rattle.sheets_http.specs.declared.outside.SinkFault.TheVariants as sink

abbrev pub head_fault_text : HeadFault → List ℕ
head_fault_text HeadLong = codes "the head is too long"
head_fault_text BadHead = codes "the head is malformed"
head_fault_text NoLength = codes "the length of the body is missing"
head_fault_text BodyLong = codes "the body is too long"

abbrev pub route_fault_text : RouteFault → List ℕ
route_fault_text route.NoRoute = codes "no call has the method and the path"
route_fault_text route.BadQuery = codes "the call doesn't take the query"
route_fault_text route.NoMemory = codes "no memory"

abbrev pub sink_fault_text : SinkFault → List ℕ
sink_fault_text sink.Failed = codes "failed"
sink_fault_text sink.NoMemory = codes "no memory"
